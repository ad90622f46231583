use Rattle.std.proofs.Common.{◌≡◌, take}
use Rattle.camp_member.specs.Members.{calls_asked}
use Rattle.camp_member.proofs.finding.are_calls_of.Given as goal

abbrev pub invariant-loop-at : goal.invariant-loop-at
invariant-loop-at g l = take l.at l.calls ≡ calls_asked (take l.at l.requests)
