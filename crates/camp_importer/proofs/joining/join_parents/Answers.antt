use Rattle.camp_importer.proofs.PullLemmas.{joins_none, joins_or}
use Rattle.camp_importer.proofs.joining.join_parents.Goals as goal

pub returns-in-Ok : goal.returns-in-Ok
returns-in-Ok c = record {
  exact = joins_or c.args.first.now c.args.others.now c.args.branch.now c.args.book.now c.start_branch.new.book c.pull_each.new.book c.pull_each.result c.in-Ok.ensures c.pull_each.ensures;
}

pub returns-in-Err : goal.returns-in-Err
returns-in-Err c = record {
  exact = joins_none c.args.first.now c.args.others.now c.args.branch.now c.args.book.now c.in-Err.why c.start_branch.new.book c.in-Err.ensures;
}
