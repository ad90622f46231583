use Rattle.camp_questions.proofs.ReachedNeeds.{needs_are_reached as the_law}
use Rattle.camp_questions.proofs.laws.needs_are_reached.Goals as goal

pub returns : goal.returns
returns c = record { law = the_law }
