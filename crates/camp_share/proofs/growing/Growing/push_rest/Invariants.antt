use Rattle.std.proofs.Common.{◌≡◌, ◌≤◌, ◌++◌, length, drop}
use Rattle.camp_share.specs.Inside.Parts.{joined}
use Rattle.camp_share.proofs.growing.Growing.push_rest.Given as goal

abbrev pub invariant-loop-part : goal.invariant-loop-part
invariant-loop-part g l =
    let rest = joined (drop l.part-index l.part-items) ++ l.list-inside.last.items in
    record {
      within : l.left ≤ length rest;
      grown : l.self ++ drop l.left rest ≡ l.initial.self ++ drop l.from l.list;
    }
