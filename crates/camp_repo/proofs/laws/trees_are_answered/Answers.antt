use Rattle.camp_repo.proofs.StepsLawful.{trees_answered}
use Rattle.camp_repo.proofs.laws.trees_are_answered.Goals as goal

pub returns : goal.returns
returns c = record { law = trees_answered }
