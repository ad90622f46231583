use Rattle.camp_questions.proofs.BranchGrowths.{needs_come_first as the_law}
use Rattle.camp_questions.proofs.laws.needs_come_first.Goals as goal

pub returns : goal.returns
returns c = record { law = the_law }
