use Rattle.camp_questions.proofs.Words.{List, ◌≡◌, ◌+◌, ◌++◌, [], ◌∷◌, ◌∙◌, ap, arith, subst, sym, take, take_more, Catch, take_all, reverse, inverse_of, Plain, AreInverses}
use Rattle.camp_questions.proofs.PatchesBack.{all_inverted, one_inverted}
use Rattle.camp_questions.proofs.fast.inverting.inverses.Goals as goal

pub loop-catch-preserved : goal.loop-catch-preserved
loop-catch-preserved c =
    let list : List Catch = c.args.catches.now in
    let i = c.loop-catch.catch-index in
    let more : take (i + 1) list ≡ take i list ++ Plain c.in-Plain.p ∷ [] = take_more list i c.catch-item.result (omega arith) ∙ ap (λ x. take i list ++ x ∷ []) (sym c.catch-item.is ∙ sym c.deref.ensures ∙ c.in-Plain.is) in
    let pushed = c.in_ok-push.ensures.items ∙ ap (λ x. c.loop-catch.back.items ++ x ∷ []) (c.in_ok-new.ensures.exact ∙ ap Plain (c.invert-inverse.ensures.exact ∙ ap inverse_of c.in_ok-try_clone.ensures.exact)) in
    rw (more, pushed) (one_inverted (take i list) c.loop-catch.back.items c.in-Plain.p c.loop-catch.invariant)

pub returns : goal.returns
returns c =
    rw c.reverse.ensures.items (subst (λ l. AreInverses l (reverse c.loop-catch.back.items)) (take_all c.loop-catch.catch-index c.args.catches.now (omega arith)) (all_inverted (take c.loop-catch.catch-index c.args.catches.now) c.loop-catch.back.items c.loop-catch.invariant))
