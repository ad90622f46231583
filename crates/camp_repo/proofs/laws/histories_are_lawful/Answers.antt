use Rattle.camp_repo.proofs.HistoriesLawful.{histories_lawful}
use Rattle.camp_repo.proofs.laws.histories_are_lawful.Goals as goal

pub returns : goal.returns
returns c = record { law = histories_lawful }
