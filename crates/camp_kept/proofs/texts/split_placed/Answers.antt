use Rattle.std.proofs.Common.{◌≡◌, ◌≢◌, ◌+◌, ◌∙◌, ℕ, List, ◌∷◌, take, drop, ap, subst, sym, rules}
use Rattle.std.proofs.lemmas.List.{drop_more, take-append-drop}
use Rattle.camp_kept.specs.Entries.{AreInPlace}
use Rattle.camp_kept.proofs.PlaceLemmas.{in_place_after, later_in_place}
use Rattle.camp_notes.specs.declared.logs.PlacedNote.{PlacedNote}
use Rattle.camp_kept.proofs.texts.split_placed.Goals as goal

pub returns-then-one-at-clause-later : goal.returns-then-one-at-clause-later
returns-then-one-at-clause-later c high are =
    let xs = c.args.notes.now in
    let at = c.args.at in
    let i = c.loop-one.one-index in
    let one = c.one-item.result in
    let rest : drop i xs ≡ one ∷ drop (i + 1) xs =
    drop_more xs i one c.loop-one-test.true ∙ ap (λ (n : PlacedNote). n ∷ drop (i + 1) xs) (sym c.one-item.is) in
    let other : one.at ≢ at = search rules in
    let after : AreInPlace at high (drop i xs) =
    in_place_after at high (take i xs) (drop i xs) (subst (λ (l : List PlacedNote). AreInPlace at high l) (sym (take-append-drop i xs)) are) c.loop-one.invariant.1 in
    subst (λ (l : List PlacedNote). AreInPlace (at + 1) high l) (sym (c.split_at.ensures.back ∙ ap (λ (n : ℕ). drop n xs) c.loop-one.invariant.0 ∙ rest))
    (later_in_place at high one (drop (i + 1) xs) other (subst (λ (l : List PlacedNote). AreInPlace at high l) rest after))
