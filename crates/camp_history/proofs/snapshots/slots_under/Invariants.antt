use Rattle.camp_history.proofs.Words.{◌≡◌, All, length, ◌≤◌, vec_capacity, vec_len}
use Rattle.camp_history.proofs.snapshots.slots_under.Given as goal

abbrev pub invariant-loop : goal.invariant-loop
invariant-loop g l = record {
  of : All (λ slot. slot.tag ≡ l.tag.numbers) l.slots.items;
  count : length l.slots.items ≡ l.counter;
  so_far : vec_len l.slots ≡ l.counter;
  space : l.count ≤ vec_capacity l.slots;
}
