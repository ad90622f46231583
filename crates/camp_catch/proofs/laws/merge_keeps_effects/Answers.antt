use Rattle.camp_catch.proofs.MergeEffects.{merge_keeps_effects}
use Rattle.camp_catch.proofs.laws.merge_keeps_effects.Goals as goal

pub returns : goal.returns
returns c = record { law = merge_keeps_effects }
