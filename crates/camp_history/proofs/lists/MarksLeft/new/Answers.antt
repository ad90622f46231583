use Rattle.camp_history.proofs.Words.{arith}
use Rattle.camp_history.proofs.SnapshotLemmas.{left_after}
use Rattle.camp_history.proofs.lists.MarksLeft.new.Goals as goal

pub returns : goal.returns
returns g c = left_after c.args.earlier.now c.args.tail.now c.iter_from-2.result c.args.from c.len-len.result c.len-len.ensures.exact (omega (arith, c.if-from-len.false)) c.iter_from-2.ensures.rest
