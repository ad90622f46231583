use Rattle.camp_share.proofs.Words.{deref, shows_in_order}
use Rattle.camp_share.proofs.iters.Iter.new.Goals as goal

pub returns-clause-runs : goal.returns-clause-runs
returns-clause-runs g c = shows_in_order deref
