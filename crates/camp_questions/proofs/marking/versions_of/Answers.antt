use Rattle.camp_questions.proofs.Words.{arith}
use Rattle.camp_questions.proofs.MarkSteps.{next_version}
use Rattle.camp_questions.proofs.marking.versions_of.Goals as goal

pub loop-name-preserved : goal.loop-name-preserved
loop-name-preserved c =
    next_version c.args.seen.now c.args.tree.now c.args.path.now c.args.lines.now c.args.names.now c.loop-name.name-index c.name-item.result c.name-item.result c.in_ok-made.made c.loop-name.versions.items c.push_made.new.versions.items (omega arith) c.name-item.is c.loop-name.invariant c.in_ok-made.ensures c.in_ok-push_made.ensures
