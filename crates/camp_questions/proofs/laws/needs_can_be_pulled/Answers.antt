use Rattle.camp_questions.proofs.PulledNeeds.{needs_can_be_pulled as the_law}
use Rattle.camp_questions.proofs.laws.needs_can_be_pulled.Goals as goal

pub returns : goal.returns
returns c = record { law = the_law }
