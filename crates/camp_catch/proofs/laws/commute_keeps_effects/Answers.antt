use Rattle.camp_catch.proofs.CommuteEffects.{commute_keeps_effects}
use Rattle.camp_catch.proofs.laws.commute_keeps_effects.Goals as goal

pub returns : goal.returns
returns c = record { law = commute_keeps_effects }
