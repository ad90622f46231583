use Rattle.camp_questions.proofs.LeastHeld.{needs_and_held_are_one as the_law}
use Rattle.camp_questions.proofs.laws.needs_and_held_are_one.Goals as goal

pub returns : goal.returns
returns c = record { law = the_law }
