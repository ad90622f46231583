use Rattle.camp_seq.proofs.LabelsKept.{split_by_labels}
use Rattle.camp_seq.proofs.laws.splits_are_by_labels.Goals as goal

pub returns : goal.returns
returns c = record { law = split_by_labels }
