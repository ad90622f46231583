use Rattle.camp_share.proofs.Words.{refl}
use Rattle.camp_share.proofs.PartLemmas.{taken_one}
use Rattle.camp_share.proofs.lists.SharedList.range_to_vec.Goals as goal

pub loop-item-preserved : goal.loop-item-preserved
loop-item-preserved g c =
    taken_one c.loop-item.items.items c.loop-item.item-iterator.iter c.next.new.self.iter _ _ c.in-Some.item.now _ _ _ c.in-Some.ensures.steps.0 c.in-Some.ensures.steps.1 c.in_ok-push_copy.ensures.pushed refl c.loop-item.invariant
