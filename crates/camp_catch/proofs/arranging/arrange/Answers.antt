use Rattle.camp_catch.proofs.Words.{[], ap, append-nil, arith, inl, length, refl, sym, ◌∙◌, drop_all, with_items_is, told_not, catch_key}
use Rattle.camp_catch.proofs.MoveSteps.{stands_at, arranged_with_other, arranged_with_named}
use Rattle.camp_catch.proofs.arranging.arrange.Goals as goal

pub loop-catch-preserved-then-not-is_of : goal.loop-catch-preserved-then-not-is_of
loop-catch-preserved-then-not-is_of g c =
    let next = stands_at c.args.list.now c.loop-catch.catch-index c.catch-item.result c.in_ok-catch.catch (omega arith) (c.in_ok-catch.ensures ∙ c.catch-item.is) in
    let other = told_not _ c.if-not-is_of.true (rw c.deref.ensures at c.is_of.ensures) in
    rw (c.in_ok-push.ensures.items, c.new.ensures) (arranged_with_other (rw next at c.loop-catch.invariant) other)

pub returns-in-Some : goal.returns-in-Some
returns-in-Some g c =
    let next = stands_at c.args.list.now c.loop-catch.catch-index c.catch-item.result c.in_ok-catch.catch (omega arith) (c.in_ok-catch.ensures ∙ c.catch-item.is) in
    let is = (rw c.deref.ensures at c.is_of.ensures).0 c.if-not-is_of.false in
    let patch = c.key-patch.ensures.exact ∙ ap catch_key c.deref-in-loop-catch.ensures in
    record { exact = (rw next at c.loop-catch.invariant).sticks c.key-patch.result c.in-Some.on (inl (is, (rw (c.in-Some.is, c.deref_mut.ensures.value, c.new-coming.ensures) at c.in_ok-on.ensures.exact), patch)) }

pub loop-catch-preserved : goal.loop-catch-preserved
loop-catch-preserved g c =
    let next = stands_at c.args.list.now c.loop-catch.catch-index c.catch-item.result c.in_ok-catch.catch (omega arith) (c.in_ok-catch.ensures ∙ c.catch-item.is) in
    let is = (rw c.deref.ensures at c.is_of.ensures).0 c.if-not-is_of.false in
    let written = with_items_is c.loop-catch.rest c.commute_before_all.new.list (c.commute_before_all.auto.list ∙ ap length c.deref_mut.ensures.value ∙ sym c.loop-catch.rest.ok.0) in
    rw (written, c.in_ok-push-2.ensures.items, c.into_catch.ensures) (arranged_with_named c.commute_before_all.new.coming (rw next at c.loop-catch.invariant) is (rw (c.in_default.is, c.deref_mut.ensures.value, c.new-coming.ensures) at c.in_ok-on.ensures.exact))

pub returns : goal.returns
returns g c =
    record { exact = rw c.in_ok-rest.ensures (rw append-nil at ((rw (drop_all c.loop-catch.catch-index c.args.list.now (omega arith)) at c.loop-catch.invariant).goes [] c.loop-catch.rest.items (refl, refl))) }
