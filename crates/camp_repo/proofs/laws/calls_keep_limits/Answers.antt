use Rattle.camp_repo.proofs.HistoriesLawful.{histories_keep_limits, steps_keep_limits}
use Rattle.camp_repo.proofs.laws.calls_keep_limits.Goals as goal

pub returns : goal.returns
returns c = record { steps = steps_keep_limits; histories = histories_keep_limits }
