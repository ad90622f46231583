use Rattle.std.proofs.Common.{◌≡◌, take}
use Rattle.camp_member.specs.Members.{calls_asked}
use Rattle.camp_member.proofs.wanting.copy_calls.Given as goal

abbrev pub invariant-loop-request : goal.invariant-loop-request
invariant-loop-request g l = l.calls.items ≡ calls_asked (take l.request-index l.requests)
