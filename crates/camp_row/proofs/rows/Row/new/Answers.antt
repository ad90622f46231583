use Rattle.camp_row.proofs.Words.{◌≡◌, ◌+◌, ◌*◌, ◌∷◌, [], sym, subst, ◌∙◌, replicate, Knowledge, all_fresh, IsRuled}
use Rattle.camp_row.proofs.Splitting.{opens}
use Rattle.camp_row.proofs.rows.Row.new.Goals as goal

pub of_words-requires : goal.of_words-requires
of_words-requires c =
    let seats = c.args.seats in
    let per_seat = c.args.per_seat in
    let v : Knowledge = record { parts = all_fresh seats per_seat } in
    let zeros : c.as_slice.result.now ≡ replicate (1 + 2 * (per_seat * seats)) 0 = c.as_slice.ensures.value ∙ c.in_ok-words.ensures.items_if_clones_equal (λ y e. e) in
    subst (λ words. IsRuled seats per_seat words (v ∷ [])) (sym zeros) (opens seats per_seat)
