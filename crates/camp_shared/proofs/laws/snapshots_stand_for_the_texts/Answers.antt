use Rattle.camp_shared.proofs.RestoreLemmas.{opens_restored, restores_texts_in_order, snapshot_stands_for_texts}
use Rattle.camp_shared.proofs.laws.snapshots_stand_for_the_texts.Goals as goal

pub returns : goal.returns
returns c = record { opens = opens_restored; goes_on = restores_texts_in_order; stands = snapshot_stands_for_texts }
