use Rattle.std.proofs.Common.{◌≡◌, ◌≤◌, true, length, take}
use Rattle.std.specs.List.{AllByRecursion}
use Rattle.camp_member.proofs.members.Member.batch.Given as goal

abbrev pub invariant-loop-at : goal.invariant-loop-at
invariant-loop-at g l =
    AllByRecursion (λ request. g.State.Object.object.is_writing request.call ≡ true) (take l.at l.self-inside.waiting.items)
    × AllByRecursion (λ request. request.at_least ≤ length l.self-inside.reader.history) (take l.at l.self-inside.waiting.items)
