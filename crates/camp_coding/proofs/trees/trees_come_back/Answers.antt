use Rattle.camp_coding.proofs.GitTreeLemmas.{trees_back}
use Rattle.camp_coding.proofs.trees.trees_come_back.Goals as goal

pub returns : goal.returns
returns c = trees_back
