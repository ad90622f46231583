use Rattle.camp_script.proofs.Common.{List, ℕ, length, map, ap, ◌∙◌, arith, rules, lines_of, without_end}
use Rattle.camp_script.proofs.Agreement.{reads_as_defined}
use Rattle.camp_script.proofs.LineLemmas.{lines_without_end}
use Rattle.camp_script.proofs.Wanting.{nothing_read, one_read, wants_now}
use Rattle.camp_script.proofs.scripts.read_script.Goals as goal

pub loop-line-init : goal.loop-line-init
loop-line-init c =
    let given = c.into_iter-line-iterator.ensures.into_iter_gives in
    let cut = ap (map without_end) (given ∙ c.lines_with_terminator-line-items.ensures.value) ∙ lines_without_end c.args.bytes.now in
    let short = ap (λ (lines : List (List ℕ)). length lines) given in
    rw (c.new-reading.ensures, cut) (reads_as_defined (lines_of c.args.bytes.now), omega (arith, short, c.lines_with_terminator-line-items.ensures.len), nothing_read (lines_of c.args.bytes.now))

pub loop-line-preserved : goal.loop-line-preserved
loop-line-preserved c =
    let steps = c.in-Some.ensures.steps in
    let given = c.in_ok-read_line.ensures.given in
    let cut = c.without_end.ensures.exact in
    let short = ap (λ (lines : List (List ℕ)). length lines) steps in (
      rw (steps, ← cut, given) at c.loop-line.invariant.0,
      omega (arith, short, c.loop-line.invariant.1),
      one_read c.loop-line.number c.loop-line.reading _ _ (map without_end c.next.new.self) (lines_of c.args.bytes.now) (rw (steps, ← cut) at c.loop-line.invariant.2) given,
    )

pub returns-in_err-read_line-clause-memory : goal.returns-in_err-read_line-clause-memory
returns-in_err-read_line-clause-memory c =
    let steps = c.in-Some.ensures.steps in
    let cut = c.without_end.ensures.exact in
    let wants = wants_now c.loop-line.number c.loop-line.reading _ (map without_end c.next.new.self) c.args.bytes.now c.in_err-read_line.field-0.0 (rw (steps, ← cut) at c.loop-line.invariant.2) c.in_err-read_line.ensures.given c.in_err-read_line.ensures.memory in
    search (rules, wants)
