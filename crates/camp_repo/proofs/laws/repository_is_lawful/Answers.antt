use Rattle.camp_repo.specs.ObjectLaws.{repositories_are_lawful}
use Rattle.camp_repo.proofs.laws.repository_is_lawful.Goals as goal

pub returns : goal.returns
returns c = record { law = repositories_are_lawful }
