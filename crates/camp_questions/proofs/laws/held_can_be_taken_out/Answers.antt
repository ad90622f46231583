use Rattle.camp_questions.proofs.BranchGrowths.{held_can_be_taken_out as the_law}
use Rattle.camp_questions.proofs.laws.held_can_be_taken_out.Goals as goal

pub returns : goal.returns
returns c = record { law = the_law }
