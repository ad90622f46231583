use Rattle.camp_clients.proofs.Words.{◌≡◌, ◌+◌, ◌≤◌, length, All, AllZip, IsSeatOf, history_of, IsSynchronised, vec_capacity, vec_len}
use Rattle.camp_clients.proofs.synchronising.synchronise_each_with.Given as goal

abbrev pub invariant-loop-seat : goal.invariant-loop-seat
invariant-loop-seat g l = record {
  seat : IsSeatOf l.head l.known;
  number : l.known.known.number ≡ l.fn.opener.known.number;
  seen : history_of l.known ≡ history_of l.fn.opener;
  left : All (IsSeatOf l.head) l.seat-iterator.rest.items;
  seats : AllZip (IsSynchronised l.head (history_of l.fn.opener)) l.yielded l.all.items;
  room : length l.seat-iterator.rest.items + vec_len l.all ≤ vec_capacity l.all;
}
