use Rattle.camp_questions.proofs.SidesApply.{sides_apply as the_law}
use Rattle.camp_questions.proofs.laws.sides_apply.Goals as goal

pub returns : goal.returns
returns c = record { law = the_law }
