use Rattle.camp_commits.proofs.TreeLemmas.{commits_follow}
use Rattle.camp_commits.proofs.applying.trees_follow_commits.Goals as goal

pub returns : goal.returns
returns c = commits_follow
