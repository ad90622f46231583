use Rattle.std.proofs.Common.{refl}
use Rattle.camp_member.proofs.members.Member.find.Goals as goal

pub read_own-requires-clause-calls : goal.read_own-requires-clause-calls
read_own-requires-clause-calls g c = c.if-is_alien.ensures (c.if-has_own.ensures.0 refl)
