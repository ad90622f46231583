use Rattle.std.proofs.Common.{◌≡◌, ◌++◌, take}
use Rattle.camp_share.proofs.growing.Growing.push_items.Given as goal

abbrev pub invariant-loop-item : goal.invariant-loop-item
invariant-loop-item g l = l.self ≡ l.initial.self ++ take l.item-index l.items
