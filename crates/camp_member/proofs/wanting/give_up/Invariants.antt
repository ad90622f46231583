use Rattle.std.proofs.Common.{◌≡◌, ◌+◌, ◌≤◌, ◌++◌, length, map, take, drop, Err}
use Rattle.std.specs.Vec.{vec_capacity}
use Rattle.camp_member.proofs.wanting.give_up.Given as goal

abbrev pub invariant-loop-given : goal.invariant-loop-given
invariant-loop-given g l =
    (l.waiting.items ≡ drop l._given l.fn.waiting.items)
    × (l.answers.items ≡ l.fn.answers.items ++ map (λ request. (request.id, Err l.why)) (take l._given l.fn.waiting.items))
    × (length l.answers.items + l.count ≤ vec_capacity l.answers + l._given)
