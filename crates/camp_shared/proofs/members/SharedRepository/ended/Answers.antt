use Rattle.std.proofs.Common.{◌≡◌, ◌-◌}
use Rattle.camp_member.specs.declared.requests.NoReply.TheVariants.{Ended}
use Rattle.camp_shared.proofs.KeepLemmas.{room_ended}
use Rattle.camp_shared.proofs.members.SharedRepository.ended.Goals as goal

pub invariant_of-self : goal.invariant_of-self
invariant_of-self c = room_ended c.self.inside.member c.ended.new.self (c.args.index - 1) (λ _ why. why ≡ Ended) c.ended.result c.self.invariant c.ended.ensures.goes c.ended.ensures.ends c.ended.ensures.stays
