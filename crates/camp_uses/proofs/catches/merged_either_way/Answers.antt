use Rattle.camp_uses.proofs.Turned.{agreed}
use Rattle.camp_uses.proofs.catches.merged_either_way.Goals as goal

pub returns : goal.returns
returns c = record { same = agreed c.merge_is_symmetric.ensures.law c.merge_is_unique.ensures.law _ _ _ _ _ c.in_ok-here.ensures.exact c.merge-there.ensures.exact c.both.ensures.exact }
