use Rattle.camp_catch.proofs.MergeCases.{one_merging}
use Rattle.camp_catch.proofs.laws.merge_is_unique.Goals as goal

pub returns : goal.returns
returns c = record { law = one_merging }
