use Rattle.camp_share.proofs.Words.{◌≡◌, ◌++◌, joined}
use Rattle.camp_share.proofs.part_lists.PartList.to_vec.Given as goal

abbrev pub invariant-loop-part : goal.invariant-loop-part
invariant-loop-part g l = l.items.items ++ joined l.part-iterator ≡ l.self
