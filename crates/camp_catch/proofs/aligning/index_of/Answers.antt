use Rattle.camp_catch.proofs.Words.{List, arith, refl, take, length-take-le, take_all, whole, Catch}
use Rattle.camp_catch.proofs.MoveSteps.{stands_at}
use Rattle.camp_catch.proofs.aligning.index_of.Goals as goal

pub returns-then-has_key : goal.returns-then-has_key
returns-then-has_key c =
    let s : List Catch = c.args.list.now in
    let at = c.loop-at.at in
    let next = stands_at s at c.index-list-at.result c.index-list-at.result (omega arith) c.index-list-at.is in
    let labelled = c.if-has_key.ensures.0 refl in
    record { before = take at s; first = _; after = _; is = whole s at _ next; stands = length-take-le at s (omega arith); labelled = labelled; lacks = c.loop-at.invariant }

pub returns : goal.returns
returns c = rw (take_all c.loop-at.at c.args.list.now (omega arith)) at c.loop-at.invariant
