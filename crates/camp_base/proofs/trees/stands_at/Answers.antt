use Rattle.camp_base.proofs.Words.{arith}
use Rattle.camp_base.proofs.LineLemmas.{lines_told}
use Rattle.camp_base.proofs.trees.stands_at.Goals as goal

pub returns-else-is_empty : goal.returns-else-is_empty
returns-else-is_empty c = lines_told c.args.line c.args.old.now c.args.lines.now _ (omega arith) (omega arith) c.has_at.ensures.exact
