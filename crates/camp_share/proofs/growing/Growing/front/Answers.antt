use Rattle.camp_share.proofs.Words.{◌++◌, take, Vec, ap, ◌∙◌, arith, joined, common_steps}
use Rattle.camp_share.proofs.PartLemmas.{front_cut, front_whole, length_told}
use Rattle.camp_share.proofs.growing.Growing.front.Goals as goal

pub returns-then-left-len : goal.returns-then-left-len
returns-then-left-len g c =
    let size = length_told _ c.part-item.result _ c.deref.ensures c.len-in-loop-part.ensures in
    ap (λ ps. joined ps ++ c.in_ok-last.last.items) c.loop-part.invariant.passed
    ∙ ap (λ xs. joined (take c.loop-part.part-index c.deref-part-items.result.now) ++ xs) (c.in_ok-last.ensures ∙ ap (λ (p : Vec _ _). take c.loop-part.left p.items) c.deref-then-left-len.ensures)
    ∙ front_cut _ c.self.inside.last.items _ c.part-item.result c.loop-part-test.true c.part-item.is c.args.count c.loop-part.left c.loop-part.invariant.left (omega arith)
    ∙ ap (λ ps. take c.args.count (joined ps ++ c.self.inside.last.items)) c.deref-part-items.ensures.value ∙ ap (take c.args.count) c.self.view_is

pub returns : goal.returns
returns g c =
    ap (λ ps. joined ps ++ c.in_ok-last-2.last.items) c.loop-part.invariant.passed
    ∙ ap (λ xs. joined (take c.loop-part.part-index c.deref-part-items.result.now) ++ xs) c.in_ok-last-2.ensures
    ∙ front_whole _ c.self.inside.last.items c.loop-part.part-index c.args.count c.loop-part.left c.loop-part.invariant.left (omega arith)
    ∙ ap (λ ps. take c.args.count (joined ps ++ c.self.inside.last.items)) c.deref-part-items.ensures.value ∙ ap (take c.args.count) c.self.view_is

pub invariant_of-result : goal.invariant_of-result
invariant_of-result g c = grind (arith, common_steps)

pub loop-part-preserved : goal.loop-part-preserved
loop-part-preserved g c = grind (arith, common_steps)

pub first_of-requires-2 : goal.first_of-requires-2
first_of-requires-2 g c = grind (arith, common_steps)

pub invariant_of-result-2 : goal.invariant_of-result-2
invariant_of-result-2 g c = grind (arith, common_steps)
