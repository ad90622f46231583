use Rattle.camp_catch.proofs.Words.{ap, length, set, ◌++◌, ◌∙◌, turned_right}
use Rattle.camp_catch.proofs.MoveSteps.{none_first, stands_first, stands_there, comes_first, stays_behind}
use Rattle.camp_catch.proofs.aligning.move_to_front.Goals as goal

pub returns-in_default : goal.returns-in_default
returns-in_default c = record { exact = λ any w. none_first c.args.key.now c.args.list.now w.0 w.1 c.in_default.ensures w.2 }

pub returns-then-at-eq0 : goal.returns-then-at-eq0
returns-then-at-eq0 c = record { exact = stands_there c.in-Some.ensures c.if-at-eq0.true }

pub returns-in-Some-2 : goal.returns-in-Some-2
returns-in-Some-2 c =
    let (front, back) = stands_first c.in-Some.ensures in
    record { exact = stays_behind c.in-Some.ensures c.in-Some-2.field-0 (rw (c.in-Some-2.is, c.new-coming.ensures, c.in_ok-with_gains.ensures, c.split_at_mut-before.ensures.front, front, c.split_at_mut-before.ensures.back, back) at c.in_ok-commute_before_all.ensures.exact) }

pub returns-in-None : goal.returns-in-None
returns-in-None c =
    let w = c.in-Some.ensures in
    let k = c.new.result in
    let s = c.commute_before_all.new.list in
    let (front, back) = stands_first w in
    let all = ap (λ x. s ++ set x 0 k) (c.split_at_mut-before.ensures.back ∙ back) in
    let long = c.commute_before_all.auto.list ∙ ap (λ x. length x) (c.split_at_mut-before.ensures.front ∙ front) ∙ w.stands in
    let came = rw (c.in-None.is, c.new-coming.ensures, c.in_ok-with_gains.ensures, c.split_at_mut-before.ensures.front, front, c.split_at_mut-before.ensures.back, back) at c.in_ok-commute_before_all.ensures.exact in
    record { exact = (k, s ++ w.after, rw (c.new.ensures, c.into_catch.ensures) (comes_first w c.commute_before_all.new.coming s came), turned_right _ s k w.after c.rotate_right.new.self c.in-Some.at all long c.rotate_right.ensures.after) }
