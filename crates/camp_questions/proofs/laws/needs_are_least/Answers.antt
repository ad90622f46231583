use Rattle.camp_questions.proofs.BranchGrowths.{needs_are_least as the_law}
use Rattle.camp_questions.proofs.laws.needs_are_least.Goals as goal

pub returns : goal.returns
returns c = record { law = the_law }
