use Rattle.camp_git.proofs.Growing.{all_there, one_more}
use Rattle.camp_git.specs.Inside.Commits.{modification_of, paths_in}
use Rattle.camp_git.proofs.changes.append_modifications.Goals as goal

pub loop-entry-preserved : goal.loop-entry-preserved
loop-entry-preserved c =
    one_more (modification_of c.args.new.now) (paths_in c.args.paths.now) c.loop-entry.entry-iterator c.next.new.self c.in-Some.entry.now c.args.text.now.items c.loop-entry.text.items c.append_modification.new.text.items c.in-Some.ensures.steps c.in_ok-append_modification.ensures c.loop-entry.invariant

pub returns : goal.returns
returns c =
    all_there (modification_of c.args.new.now) (paths_in c.args.paths.now) c.loop-entry.entry-iterator c.args.text.now.items c.loop-entry.text.items c.in-None.ensures.steps.0 c.loop-entry.invariant
