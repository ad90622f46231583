use Rattle.camp_questions.proofs.HangingParts.{parts_are_reached as the_law}
use Rattle.camp_questions.proofs.laws.parts_are_reached.Goals as goal

pub returns : goal.returns
returns c = record { law = the_law }
