use Rattle.camp_repo.proofs.StepsLawful.{steps_lawful}
use Rattle.camp_repo.proofs.laws.steps_keep_lawful.Goals as goal

pub returns : goal.returns
returns c = record { law = steps_lawful }
