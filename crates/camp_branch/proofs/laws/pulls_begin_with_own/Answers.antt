use Rattle.camp_branch.proofs.Steps.{pulls_begin_with_own}
use Rattle.camp_branch.proofs.laws.pulls_begin_with_own.Goals as goal

pub returns : goal.returns
returns c = record { law = pulls_begin_with_own }
