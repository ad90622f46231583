use Rattle.camp_repo.proofs.HistoriesLawful.{histories_tell}
use Rattle.camp_repo.proofs.laws.histories_tell_trees.Goals as goal

pub returns : goal.returns
returns c = record { law = histories_tell }
