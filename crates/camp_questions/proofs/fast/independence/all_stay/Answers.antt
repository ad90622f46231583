use Rattle.camp_questions.proofs.Words.{List, ◌≡◌, ◌+◌, ◌++◌, [], ◌∷◌, ◌∙◌, ap, arith, refl, subst, sym, take, take_more, all_append, Catch, CatchCommutesBeforeAll, take_all, AllCommuteUnchanged}
use Rattle.camp_questions.proofs.fast.independence.all_stay.Goals as goal

pub loop-catch-preserved : goal.loop-catch-preserved
loop-catch-preserved c =
    let going : List Catch = c.args.going.now in
    let s : List Catch = c.args.catches.now in
    let i = c.loop-catch.catch-index in
    let k : Catch = c.catch-item.result in
    let more : take (i + 1) s ≡ take i s ++ k ∷ [] = take_more s i k (omega arith) ∙ ap (λ x. take i s ++ x ∷ []) (sym c.catch-item.is) in
    let stays : CatchCommutesBeforeAll going k k going = rw c.deref.ensures at (c.if-not-stays.ensures refl) in
    subst (AllCommuteUnchanged going) (sym more) (all_append (λ k. CatchCommutesBeforeAll going k k going) (take i s) (k ∷ []) c.loop-catch.invariant (stays, tt))

pub returns : goal.returns
returns c sure = rw (take_all c.loop-catch.catch-index c.args.catches.now (omega arith)) at c.loop-catch.invariant
