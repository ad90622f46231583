use Rattle.camp_importer.proofs.LawLemmas.{imported_commits_are_held}
use Rattle.camp_importer.proofs.laws.imported_commits_are_held.Goals as goal

pub returns : goal.returns
returns c = record { law = imported_commits_are_held }
