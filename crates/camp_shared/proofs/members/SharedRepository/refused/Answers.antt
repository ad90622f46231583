use Rattle.std.proofs.Common.{◌≡◌}
use Rattle.camp_member.specs.declared.requests.NoReply.TheVariants.{Refused}
use Rattle.camp_shared.proofs.KeepLemmas.{room_refused}
use Rattle.camp_shared.proofs.members.SharedRepository.refused.Goals as goal

pub invariant_of-self : goal.invariant_of-self
invariant_of-self c = room_refused c.self.inside.member c.refused.new.self (λ _ why. why ≡ Refused) c.refused.result c.self.invariant c.refused.ensures.goes c.refused.ensures.refused c.refused.ensures.stays
