use Rattle.camp_ctx.proofs.Words.{sym, subst, Norm}
use Rattle.camp_ctx.proofs.AddSteps.{not_past_patch, passes_by_from}
use Rattle.camp_ctx.proofs.PassedOrders.{keeps_order}
use Rattle.camp_ctx.proofs.adding.past_patch.Goals as goal

pub returns-in_default : goal.returns-in_default
returns-in_default c =
    let never = rw c.in_default.is at c.in_ok-patch.ensures.exact in
    not_past_patch c.args.a.now c.args.x.now _ _ c.requires _ c.patch.ensures.exact never

pub order_passed-told-requires : goal.order_passed-told-requires
order_passed-told-requires c = λ yes.
    keeps_order c.args.a.now c.args.x.now.context c.args.context c.args.moved.now c.in-Some.patch c.requires (c.context_is_ordered.ensures yes)

pub returns : goal.returns
returns c =
    let swap = rw c.in-Some.is at c.in_ok-patch.ensures.exact in
    let made = c.in_ok-before.ensures in
    let order = subst (λ y. Norm c.args.context y.context) (sym made) c.order_passed-told.ensures.order in
    passes_by_from c.args.a.now c.args.x.now _ _ c.requires c.in_ok-before.before _ _ _ c.patch.ensures.exact swap order (λ i. (made i).patch)
