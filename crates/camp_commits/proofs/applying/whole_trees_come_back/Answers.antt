use Rattle.camp_commits.proofs.WholeTreeLemmas.{whole_trees_back}
use Rattle.camp_commits.proofs.applying.whole_trees_come_back.Goals as goal

pub returns : goal.returns
returns c = whole_trees_back
