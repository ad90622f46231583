use Rattle.camp_branch.proofs.Words.{arith, length-drop, sym, ◌∙◌}
use Rattle.camp_branch.proofs.SamePrefixes.{alike_once_more, alike_to_the_end, alike_up_to}
use Rattle.camp_branch.proofs.fast.count_same.Goals as goal

pub returns-then-not-is_same-clause-most : goal.returns-then-not-is_same-clause-most
returns-then-not-is_same-clause-most c =
    let so = rw (c.in-Some.ensures.steps, c.in-Some-next.ensures.steps) at c.loop-catch.invariant in
    let no = c.if-not-is_same.true in
    alike_up_to c.in-Some.catch.now c.in-Some-next.other.now so (λ same. let yes = c.is_same.ensures.exact.1 (c.deref.ensures ∙ same ∙ sym c.deref-in-loop-catch.ensures) in cc)

pub loop-catch-preserved : goal.loop-catch-preserved
loop-catch-preserved c =
    let so = rw (c.in-Some.ensures.steps, c.in-Some-next.ensures.steps) at c.loop-catch.invariant in
    alike_once_more c.in-Some.catch.now c.in-Some-next.other.now so (sym c.deref.ensures ∙ c.is_same.ensures.exact.0 c.if-not-is_same.false ∙ c.deref-in-loop-catch.ensures)

pub returns : goal.returns
returns c =
    let most = alike_to_the_end (rw c.in-None.ensures.steps.0 at c.loop-catch.invariant) in
    let within = most.alike.within in
    let within_too = most.alike.within_too in
    record {
      fits = omega (arith, length-drop c.args.known c.args.from.now, within, c.requires.within);
      fits_too = omega (arith, length-drop c.args.known c.args.to.now, within_too, c.requires.within_too);
      most = most;
    }
