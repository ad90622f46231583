use Rattle.camp_share.proofs.Words.{◌≡◌, drop, All, joined, IsPart}
use Rattle.camp_share.proofs.part_lists.PartList.iter_from.Given as goal

abbrev pub invariant-loop-part : goal.invariant-loop-part
invariant-loop-part g l = record {
  can_next : (goal.iterator-loop-part g).can_next l.parts;
  is_finite : (goal.iterator-loop-part g).is_finite l.parts;
  parts : All IsPart l.parts;
  rest : drop l.start (joined l.parts) ≡ drop l.from l.self;
}
