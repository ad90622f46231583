use Rattle.camp_ctx.proofs.Words.{◌≡◌, ◌+◌, ◌-◌, ◌∷◌, ◌++◌, List, drop, ap, sym, subst, ◌∙◌, arith, drop_more, take_rest, Named, Links}
use Rattle.camp_ctx.proofs.LinkSteps.{Linked, linked_more}
use Rattle.camp_ctx.proofs.fast.links.links_from.Goals as goal

pub loop-at-preserved : goal.loop-at-preserved
loop-at-preserved c =
    let r : List Named = c.args.r.now in
    let s : List Named = c.args.s.now in
    let patch : Named = c.args.patch.now in
    let i = c.loop-at.at - 1 in
    let e : c.loop-at.at ≡ i + 1 = omega arith in
    let a = c.index-r-at.result in
    let next : drop i r ≡ a ∷ drop (i + 1) r = drop_more r i a (omega arith) ∙ ap (λ x. x ∷ drop (i + 1) r) (sym c.index-r-at.is) in
    let link = subst (λ x. Links a (x ++ s) patch) (take_rest r (i + 1)) (c.links.ensures.0 c.if-not-links.false) in
    subst (λ x. Linked x s patch) (sym next) (linked_more a (drop (i + 1) r) s patch link (subst (λ n. Linked (drop n r) s patch) e c.loop-at.invariant))
