use Rattle.camp_store.proofs.BlockLemmas.{damaged_does_not_decode}
use Rattle.camp_store.proofs.laws.damaged_files_do_not_decode.Goals as goal

pub returns : goal.returns
returns c = record { law = damaged_does_not_decode }
