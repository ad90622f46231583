use Rattle.camp_share.proofs.Words.{arith}
use Rattle.camp_share.proofs.PartLemmas.{shorter, length_told}
use Rattle.camp_share.proofs.growing.length_of.Goals as goal

pub overflow_add-sum : goal.overflow_add-sum
overflow_add-sum g c =
    omega (arith, length_told _ c.part-item.result _ c.deref.ensures c.len-sum.ensures, shorter _ _ c.part-item.result c.loop-part-test.true c.part-item.is, c.loop-part.invariant)

pub loop-part-preserved : goal.loop-part-preserved
loop-part-preserved g c =
    omega (arith, length_told _ c.part-item.result _ c.deref.ensures c.len-sum.ensures, shorter _ _ c.part-item.result c.loop-part-test.true c.part-item.is, c.loop-part.invariant)
