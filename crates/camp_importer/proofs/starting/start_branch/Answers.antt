use Rattle.camp_importer.proofs.BranchLemmas.{starts_or, starts_there}
use Rattle.camp_importer.proofs.starting.start_branch.Goals as goal

pub returns-then-is_there_already : goal.returns-then-is_there_already
returns-then-is_there_already c =
    let is = c.is_there_already.ensures.there c.if-is_there_already.true in starts_there c.args.first.now c.args.branch.now c.args.book.now is.0 is.1

pub returns : goal.returns
returns c =
    starts_or c.args.first.now c.args.branch.now c.args.book.now c.execute.new.book c.execute.result (c.is_there_already.ensures.missing c.if-is_there_already.false) c.execute.ensures
