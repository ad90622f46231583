use Rattle.camp_seq.proofs.MergeGrid.{merge_closes}
use Rattle.camp_seq.proofs.laws.clean_merge_closes.Goals as goal

pub returns : goal.returns
returns c = record { law = merge_closes }
