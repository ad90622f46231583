use Rattle.std.proofs.lemmas.Result.{IfOk-weaker}
use Rattle.std.proofs.Math.Seq.{drop-length}
use Rattle.camp_ctx.proofs.Words.{◌≡◌, ◌∷◌, ◌+◌, ◌-◌, drop, drop_more, sym, ap, ◌∙◌, subst, arith, Norm, AddsAll}
use Rattle.camp_ctx.specs.Inside.InPlace.{in_context}
use Rattle.camp_ctx.proofs.adding.add_to_copy.Goals as goal

pub loop-at-init : goal.loop-at-init
loop-at-init c =
    let r = c.args.r.now in
    let contexts = c.in_ok-context.ensures in
    let patches = c.in_ok-patch.ensures.exact ∙ c.patch.ensures.exact in
    record {
      added = subst (λ l. AddsAll l c.args.x.now (in_context c.in_ok-context.context c.in_ok-patch.patch)) (sym (drop-length r)) (λ i. record { context = contexts i; patch = patches i });
      own = λ yes. subst (λ s. Norm s s) (sym contexts) (c.context_is_ordered-told.ensures yes);
    }

pub loop-at-preserved : goal.loop-at-preserved
loop-at-preserved c =
    let r = c.args.r.now in
    let x = c.args.x.now in
    let i = c.loop-at.at - 1 in
    let p = c.index-r-at.result in
    let e : c.loop-at.at ≡ i + 1 = omega arith in
    let so_far = subst (λ n. AddsAll (drop n r) x (in_context c.loop-at.context c.loop-at.patch)) e c.loop-at.invariant.added in
    let next : drop i r ≡ p ∷ drop (i + 1) r =
    drop_more r i p (omega (arith, c.loop-at.auto.at)) ∙ ap (λ q. q ∷ drop (i + 1) r) (sym c.index-r-at.is) in
    record {
      added = subst (λ l. AddsAll l x (in_context c.add_to.new.context c.add_to.new.patch)) (sym next) (in_context c.loop-at.context c.loop-at.patch, so_far, c.in_ok-told.ensures.adds);
      own = c.in_ok-told.ensures.own;
    }

pub returns : goal.returns
returns c =
    let r = c.args.r.now in
    let x = c.args.x.now in
    let none : c.loop-at.at ≡ 0 = omega arith in
    IfOk-weaker c.make_contexted.result _ _ (λ y is. subst (AddsAll r x) (sym is) (subst (λ n. AddsAll (drop n r) x (in_context c.loop-at.context c.loop-at.patch)) none c.loop-at.invariant.added)) c.make_contexted.ensures
