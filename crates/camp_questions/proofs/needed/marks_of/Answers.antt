use Rattle.camp_questions.proofs.Words.{List, Bool, ◌≡◌, ◌+◌, ◌++◌, [], ◌∷◌, ◌∙◌, ap, arith, map, map-append, slice_cmp, nat_cmp, map_of, sym, take, take_more, ℕ, has_listed, is_among, names_in, take_all}
use Rattle.camp_questions.proofs.needed.marks_of.Goals as goal

pub loop-name-preserved : goal.loop-name-preserved
loop-name-preserved c =
    let names : List (List ℕ) = c.args.names.now in
    let i = c.loop-name.name-index in
    let n : List ℕ = c.name-item.result in
    let test : List ℕ → Bool = is_among (names_in c.args.set.now) in
    let more : take (i + 1) names ≡ take i names ++ n ∷ [] = take_more names i n (omega arith) ∙ ap (λ x. take i names ++ x ∷ []) (sym c.name-item.is) in
    let has = c.contains_key.ensures.exact ∙ has_listed (map_of (slice_cmp nat_cmp) c.args.set.now) n in
    c.in_ok-push.ensures.items ∙ (λ k. c.loop-name.invariant k ++ has k ∷ []) ∙ sym (ap (map test) more ∙ map-append test (take i names) (n ∷ []))

pub returns : goal.returns
returns c =
    c.loop-name.invariant ∙ ap (map (is_among (names_in c.args.set.now))) (take_all c.loop-name.name-index c.args.names.now (omega arith))
