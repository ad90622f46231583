use Rattle.camp_share.proofs.Words.{subst, ◌∙◌, arith, All, All-tail, IsPart, common_steps}
use Rattle.camp_share.proofs.PartLemmas.{left_behind, length_told}
use Rattle.camp_share.proofs.part_lists.PartList.iter_from.Goals as goal

pub loop-part-preserved : goal.loop-part-preserved
loop-part-preserved g c =
    let size = length_told _ c.in-Some-next.part.now _ c.deref.ensures c.len.ensures in
    let less = length_told _ c.in-Some-next.part.now _ c.deref-in-Some-next.ensures c.len-start.ensures in
    record {
      can_next = tt;
      is_finite = tt;
      parts = All-tail IsPart _ _ (subst (All IsPart) c.in-Some-next.ensures.steps c.loop-part.invariant.parts);
      rest = left_behind c.loop-part.parts c.next.new.self c.in-Some-next.part.now c.loop-part.start c.len-start.result c.in-Some-next.ensures.steps less (omega arith) ∙ c.loop-part.invariant.rest;
    }

pub returns-then-start-len-clause-rest : goal.returns-then-start-len-clause-rest
returns-then-start-len-clause-rest g c = grind (arith, common_steps)

pub returns-clause-rest : goal.returns-clause-rest
returns-clause-rest g c = grind (arith, common_steps)
