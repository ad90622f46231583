use Rattle.camp_branch.proofs.ConflictsDetermined.{conflicts_are_determined}
use Rattle.camp_branch.proofs.laws.conflicts_are_determined.Goals as goal

pub returns : goal.returns
returns c = record { law = conflicts_are_determined }
