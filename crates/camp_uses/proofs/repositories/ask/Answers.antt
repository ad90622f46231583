use Rattle.camp_uses.proofs.Booked.{left}
use Rattle.camp_uses.proofs.repositories.ask.Goals as goal

pub returns : goal.returns
returns c = record { leaves = left _ _ _ _ _ c.ask.ensures.asks }
