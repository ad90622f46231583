use Rattle.camp_kept.proofs.Reopening.{stores_open}
use Rattle.camp_kept.proofs.laws.stores_are_opened.Goals as goal

pub returns : goal.returns
returns c = record { law = stores_open }
