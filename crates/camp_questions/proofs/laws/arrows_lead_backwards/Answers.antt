use Rattle.camp_questions.proofs.BackwardArrows.{arrows_lead_backwards as the_law}
use Rattle.camp_questions.proofs.laws.arrows_lead_backwards.Goals as goal

pub returns : goal.returns
returns c = record { law = the_law }
