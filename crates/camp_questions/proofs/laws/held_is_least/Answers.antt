use Rattle.camp_questions.proofs.LeastHeld.{held_is_least as the_law}
use Rattle.camp_questions.proofs.laws.held_is_least.Goals as goal

pub returns : goal.returns
returns c = record { law = the_law }
