use Rattle.camp_shared.proofs.KeepLemmas.{room_answered}
use Rattle.camp_shared.proofs.members.SharedRepository.answer.Goals as goal

pub invariant_of-self : goal.invariant_of-self
invariant_of-self c = room_answered c.self.inside.member c.answer.new.self c.answer.result c.self.invariant c.answer.ensures.exact
