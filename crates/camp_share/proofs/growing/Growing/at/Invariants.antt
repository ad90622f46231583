use Rattle.camp_share.proofs.Words.{◌≡◌, ◌<◌, ◌++◌, length, drop, get_or, joined}
use Rattle.camp_share.proofs.growing.Growing.at.Given as goal

abbrev pub invariant-loop-part : goal.invariant-loop-part
invariant-loop-part g l =
    let rest = joined (drop l.part-index l.part-items) ++ l.self-inside.last.items in
    record {
      within : l.left < length rest;
      reads : (d : _) → get_or rest l.left d ≡ get_or l.self l.index d;
    }
