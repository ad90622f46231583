use Rattle.camp_questions.proofs.Words.{IfOk-weaker, ℕ, List, ◌≡◌, ◌∙◌, ap, arith, filter, flat_map, is_among, is_in_pair, names_in, names_of, take_all}
use Rattle.camp_questions.proofs.MarkSteps.{are_in_pairs, both_of}
use Rattle.camp_questions.proofs.marking.names_in_pairs.Goals as goal

pub returns : goal.returns
returns c =
    let pairs : List (List ℕ × List ℕ) = c.args.pairs.now in
    let all = c.deref.ensures.value ∙ c.loop-pair.invariant ∙ ap (flat_map both_of) (take_all c.loop-pair.pair-index pairs (omega arith)) in
    let has : (name : List ℕ) → is_among (names_in c.in_ok-set.set) name ≡ is_in_pair pairs name = λ name. c.in_ok-set.ensures.exact name ∙ ap (λ l. is_among l name) all ∙ are_in_pairs pairs name in
    IfOk-weaker c.in_order.result _ _ (λ names is. is ∙ (λ i. filter (λ name. has name i) (names_of c.args.branch.now))) c.in_order.ensures
