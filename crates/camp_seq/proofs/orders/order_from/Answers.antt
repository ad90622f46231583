use Rattle.camp_seq.proofs.Words.{◌-◌, length, refl, sym, subst, put_mid, take_rest, Norm}
use Rattle.camp_seq.specs.Inside.FirstInOrder.{OrderedFrom}
use Rattle.camp_seq.proofs.OrderSteps.{rest_written}
use Rattle.camp_seq.proofs.orders.order_from.Goals as goal

pub returns-then-known : goal.returns-then-known
returns-then-known c = subst (λ b. OrderedFrom c.args.items.now c.args.at b c.args.items.now) (sym c.if-known.true) refl

pub returns : goal.returns
returns c =
    let s = c.args.items.now in
    let at = c.args.at in
    let rest = c.order_unordered.new.items in
    subst (λ b. OrderedFrom s at b (put_mid at (length s - at) s rest)) (sym c.if-known.false) (rest, subst (λ l. Norm l rest) (take_rest s at) c.order_unordered.ensures, rest_written s rest at)
