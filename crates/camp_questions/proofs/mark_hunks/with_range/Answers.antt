use Rattle.camp_questions.proofs.Words.{◌≡◌, ◌∙◌, [], ◌∷◌, ◌++◌, ap, Bool, List, filter, filter_same, fold, nat_lt, rules, append_assoc, union_of, touch, Range}
use Rattle.camp_questions.proofs.mark_hunks.with_range.Goals as goal

pub returns : goal.returns
returns c =
    let places : List Range = c.args.places.now in
    let range : Range = c.args.range in
    let is_before : Range → Bool = λ place. nat_lt place.to range.from in
    let is_behind : Range → Bool = λ place. nat_lt range.to place.from in
    let before : c.retain.new.self.items ≡ filter is_before places = filter_same _ is_before _ (λ x b f' k. search rules) _ _ c.retain.ensures.filtered ∙ ap (filter is_before) c.in_ok-new.ensures.items in
    let behind : c.retain-2.new.self.items ≡ filter is_behind places = filter_same _ is_behind _ (λ x b f' k. search rules) _ _ c.retain-2.ensures.filtered ∙ ap (filter is_behind) c.in_ok-behind.ensures.items in
    let next : c.push.new.self.items ≡ filter is_before places ++ fold union_of range (filter (touch range) places) ∷ [] = c.in_ok-push.ensures.items ∙ (λ i. before i ++ c.joined_with.ensures i ∷ []) in
    c.in_ok-extend_from_slice.ensures.items ∙ (λ i. next i ++ (c.deref.ensures.value ∙ behind) i) ∙ append_assoc (filter is_before places) (fold union_of range (filter (touch range) places) ∷ []) (filter is_behind places)
