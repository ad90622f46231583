use Rattle.camp_prim.proofs.CommuteLaws.{swap_laws}
use Rattle.camp_prim.proofs.commuting.commute_has_laws.Goals as goal

pub returns : goal.returns
returns c = record { law = swap_laws }
