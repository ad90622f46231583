use Rattle.camp_history.proofs.Words.{◌≡◌, ◌≤◌, length, take, vec_capacity, vec_len}
use Rattle.camp_history.proofs.lists.share_all.Given as goal

abbrev pub invariant-loop-mark : goal.invariant-loop-mark
invariant-loop-mark g l = record {
  copied : l.copies.items ≡ take l.mark-index l.marks;
  so_far : vec_len l.copies ≡ l.mark-index;
  space : length l.marks ≤ vec_capacity l.copies;
}
