use Rattle.camp_ctx.proofs.Words.{◌∷◌, sym, subst, Norm, Passes, AddsToContext}
use Rattle.camp_ctx.specs.Inside.InPlace.{in_context}
use Rattle.camp_ctx.proofs.AddSteps.{by_cancelling, by_passing, by_keeping}
use Rattle.camp_ctx.proofs.PassedOrders.{keeps_order}
use Rattle.camp_ctx.proofs.adding.add_to.Goals as goal

pub returns-in-Some : goal.returns-in-Some
returns-in-Some c =
    let front = rw c.in-Some.is at c.in_ok-rest.ensures.exact in
    record {
      adds = by_cancelling c.args.a.now c.args.context.now c.args.patch.now c.in-Some.rest c.put_in_order.new.s front c.put_in_order.ensures.order;
      own = c.put_in_order.ensures.own;
    }

pub order_passed-requires : goal.order_passed-requires
order_passed-requires c = λ yes.
    let w = c.if-pass_by.ensures.exact in
    let past = subst (λ z. Passes z c.args.context.now c.pass_by.new.s w.0) c.in_ok-moving.ensures.exact w.1 in
    keeps_order c.args.a.now c.args.context.now c.pass_by.new.s w.0 c.pass_by.new.last past (c.requires yes)

pub returns-then-pass_by : goal.returns-then-pass_by
returns-then-pass_by c =
    let never = rw c.in_default.is at c.in_ok-rest.ensures.exact in
    let w = c.if-pass_by.ensures.exact in
    let s = c.pass_by.new.s in
    record {
      adds = by_passing c.args.a.now c.args.context.now c.args.patch.now never w.0 c.pass_by.new.p c.pass_by.new.last s c.order_passed.new.context (subst (λ z. Passes z c.args.context.now s w.0) c.in_ok-moving.ensures.exact w.1) w.2 c.order_passed.ensures.order;
      own = c.order_passed.ensures.own;
    }

pub returns : goal.returns
returns c =
    let never = rw c.in_default.is at c.in_ok-rest.ensures.exact in
    let stays = c.if-pass_by.ensures.exact in
    let copy = c.in_ok-moving.ensures.exact in
    let s = c.args.context.now in
    let p = c.args.patch.now in
    let t = c.put_first.new.s in
    let order : Norm (c.args.a.now ∷ s) t =
    subst (λ z. Norm (z ∷ s) t) copy (subst (λ l. Norm l t) (λ k. (stays.1 k).0 ∷ (stays.1 k).1) c.in_ok-told.ensures.order) in
    record {
      adds = subst (λ q. AddsToContext c.args.a.now (in_context s p) (in_context t q)) (sym (λ k. (stays.1 k).2)) (by_keeping c.args.a.now s p never t (λ y m. stays.0 y (m.0, subst (λ z. Passes z s y.1 m.0) (sym copy) m.1, m.2)) order);
      own = c.in_ok-told.ensures.own;
    }
