use Rattle.camp_git.proofs.Ends.{shows_step}
use Rattle.camp_git.specs.Inside.Commits.{differences_of, paths_in}
use Rattle.camp_git.proofs.streams.append_step.Goals as goal

pub returns : goal.returns
returns c = (
  differences_of c.args.old.now c.args.step.now.tree (paths_in c.args.step.now.paths),
  c.in_ok-append_commit.ensures,
  c.in_ok-check_held.ensures,
  shows_step c.args.old.now c.args.step.now.tree c.args.step.now.paths c.requires.held c.in_ok-check_held.ensures c.requires.stays,
)
