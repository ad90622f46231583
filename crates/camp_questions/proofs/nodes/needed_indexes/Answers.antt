use Rattle.camp_questions.proofs.Words.{◌≡◌, ◌++◌, [], ◌∷◌, ◌∙◌, Bool, true, false, ap, append-nil, cond, filter, sym, ℕ, needs_index, indexes_below}
use Rattle.camp_questions.proofs.PlacedNeeds.{one_more_place}
use Rattle.camp_questions.proofs.nodes.needed_indexes.Goals.{else-needs, then-needs+in_ok-push}
use Rattle.camp_questions.proofs.nodes.needed_indexes.Goals as goal

pub loop-place-preserved : goal.loop-place-preserved
loop-place-preserved c =
    let place = c.loop-place.place in
    let test : ℕ → Bool = needs_index c.args.marks.now c.args.at in
    elim c.if-needs.branch [
      | then-needs+in_ok-push w ↦
          let yes : test place ≡ true = sym c.needs.ensures ∙ w.if-needs.true in
          ap (λ (v : _). v.items) w.places-is ∙ w.in_ok-push.ensures.items ∙ ap (λ l. l ++ place ∷ []) c.loop-place.invariant ∙ sym (one_more_place test place ∙ ap (λ b. filter test (indexes_below place) ++ cond b (place ∷ []) []) yes)
      | else-needs w ↦
          let no : test place ≡ false = sym c.needs.ensures ∙ w.if-needs.false in
          ap (λ (v : _). v.items) w.places-is ∙ c.loop-place.invariant ∙ sym (one_more_place test place ∙ ap (λ b. filter test (indexes_below place) ++ cond b (place ∷ []) []) no ∙ append-nil (filter test (indexes_below place)))
    ]
