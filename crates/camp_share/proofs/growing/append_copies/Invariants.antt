use Rattle.std.proofs.Common.{vec_capacity}
use Rattle.camp_share.proofs.Words.{◌≡◌, ◌≤◌, ◌+◌, ◌++◌, length, take, vec_len}
use Rattle.camp_share.proofs.growing.append_copies.Given as goal

abbrev pub invariant-loop-item : goal.invariant-loop-item
invariant-loop-item g l =
    (l.items.items ≡ l.initial.items.items ++ take l.item-index l.more) × (vec_len l.items + length l.more ≤ vec_capacity l.items + l.item-index)
