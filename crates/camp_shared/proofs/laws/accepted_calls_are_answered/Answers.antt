use Rattle.camp_shared.proofs.ReadLemmas.{accepted_are_answered}
use Rattle.camp_shared.proofs.laws.accepted_calls_are_answered.Goals as goal

pub returns : goal.returns
returns c = record { law = accepted_are_answered }
