use Rattle.std.proofs.Common.{◌≡◌, ◌+◌, ◌-◌, ◌==◌, length, take, drop, sym, ap, subst, ◌∙◌, arith, Some, None}
use Rattle.std.specs.List.{starts_with}
use Rattle.std.proofs.lemmas.Bool.{false≢true}
use Rattle.camp_entries.specs.Inside.{IsLineLength}
use Rattle.camp_entries.specs.Texts.{begins_note}
use Rattle.camp_entries.proofs.NoteLemmas.{ends_here, goes_on, not_ended, rest_is, some_line}
use Rattle.camp_entries.proofs.notes.note_len.Goals as goal

pub returns-then-not-starts_with : goal.returns-then-not-starts_with
returns-then-not-starts_with c =
    let text = c.args.text.now in
    let at = c.loop.at in
    let rest = take (length text - at) (drop at text) in
    ends_here text at c.loop.invariant.0 (λ begins.
    false≢true (c.if-not-starts_with.ensures.value ∙ ap (λ n. starts_with (λ a b. a == b) rest n) c.as_slice.ensures ∙ ap begins_note (rest_is at text) ∙ begins))

pub returns-in_default : goal.returns-in_default
returns-in_default c =
    let text = c.args.text.now in
    let at = c.loop.at in
    let rest = take (length text - at) (drop at text) in
    not_ended text at c.loop.invariant.0
    (sym (c.if-not-starts_with.ensures.value ∙ ap (λ n. starts_with (λ a b. a == b) rest n) c.as_slice.ensures ∙ ap begins_note (rest_is at text)))
    (subst (λ b. IsLineLength b None) (rest_is at text) c.in_default.ensures)

pub loop-preserved : goal.loop-preserved
loop-preserved c =
    let text = c.args.text.now in
    let at = c.loop.at in
    let rest = take (length text - at) (drop at text) in
    let found : IsLineLength (drop at text) (Some c.in-Some.line) = subst (λ b. IsLineLength b (Some c.in-Some.line)) (rest_is at text) c.in-Some.ensures in
    let some = some_line (drop at text) c.in-Some.line found in
    let counts = c.loop.invariant.1 in (
      goes_on text at c.in-Some.line c.loop.invariant.0
          (sym (c.if-not-starts_with.ensures.value ∙ ap (λ n. starts_with (λ a b. a == b) rest n) c.as_slice.ensures ∙ ap begins_note (rest_is at text)))
          found,
      omega (arith, some, counts),
    )
