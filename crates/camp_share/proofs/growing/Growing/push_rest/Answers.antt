use Rattle.camp_share.proofs.Words.{common_steps}
use Rattle.std.proofs.Common.{◌++◌, ap, ◌∙◌, arith}
use Rattle.camp_share.proofs.PartLemmas.{rest_past, rest_length, length_told}
use Rattle.camp_share.proofs.growing.Growing.push_rest.Goals as goal

pub loop-part-preserved-then-left-len : goal.loop-part-preserved-then-left-len
loop-part-preserved-then-left-len g c =
    let size = length_told _ c.part-item.result _ c.deref.ensures c.len.ensures in
    let less = length_told _ c.part-item.result _ c.deref-then-left-len.ensures c.len-left.ensures in
    let shorter = rest_length _ c.list.inside.last.items _ c.part-item.result c.loop-part-test.true c.part-item.is in
    record {
      within = omega (arith, c.loop-part.invariant.within);
      grown = rw less (ap (λ xs. c.loop-part.self ++ xs) (rest_past _ c.list.inside.last.items _ c.part-item.result c.loop-part-test.true c.part-item.is c.loop-part.left (omega arith)) ∙ c.loop-part.invariant.grown);
    }

pub loop-part-preserved : goal.loop-part-preserved
loop-part-preserved g c = grind (arith, common_steps)

pub returns-else-left-eq0 : goal.returns-else-left-eq0
returns-else-left-eq0 g c = grind (arith, common_steps)

pub push_behind-requires-clause-part : goal.push_behind-requires-clause-part
push_behind-requires-clause-part g c = grind (arith, common_steps)

pub returns-in_ok-settle : goal.returns-in_ok-settle
returns-in_ok-settle g c = grind (arith, common_steps)
