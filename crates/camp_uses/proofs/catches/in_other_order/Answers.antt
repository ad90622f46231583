use Rattle.camp_uses.proofs.Turned.{turned}
use Rattle.camp_uses.proofs.catches.in_other_order.Goals as goal

pub returns : goal.returns
returns c = record { fits = turned c.commute_keeps_effects.ensures.law _ _ _ c.commute.ensures.exact }
