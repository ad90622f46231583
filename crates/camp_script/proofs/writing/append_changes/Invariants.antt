use Rattle.camp_script.proofs.Common.{◌≡◌, ◌++◌, take, flat_map, AllByRecursion, canonical_change, IsChange}
use Rattle.camp_script.proofs.writing.append_changes.Given as goal

abbrev pub invariant-loop-change : goal.invariant-loop-change
invariant-loop-change l =
    (l.text.items ≡ l.initial.text.items ++ flat_map canonical_change (take l.change-index l.changes))
    × AllByRecursion IsChange (take l.change-index l.changes)
