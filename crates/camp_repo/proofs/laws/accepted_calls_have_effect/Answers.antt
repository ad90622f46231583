use Rattle.camp_repo.proofs.Effects.{accepted_calls}
use Rattle.camp_repo.proofs.laws.accepted_calls_have_effect.Goals as goal

pub returns : goal.returns
returns c = record { law = accepted_calls }
