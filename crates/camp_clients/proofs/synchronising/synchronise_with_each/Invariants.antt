use Rattle.camp_clients.proofs.Words.{◌≡◌, ◌+◌, ◌≤◌, length, All, AllZip, IsBeginning, own, IsSeatOf, history_of, WasSynchronised, vec_capacity, vec_len}
use Rattle.camp_clients.proofs.synchronising.synchronise_with_each.Given as goal

abbrev pub invariant-loop-seat : goal.invariant-loop-seat
invariant-loop-seat g l = record {
  seat : IsSeatOf l.head l.known;
  number : l.known.known.number ≡ l.fn.opener.known.number;
  grows : IsBeginning (history_of l.fn.opener) (history_of l.known);
  own_stays : own (l.fn.opener.known.number) (history_of l.known) ≡ own (l.fn.opener.known.number) (history_of l.fn.opener);
  least : l.first ≤ length (history_of l.known);
  left : All (IsSeatOf l.head) l.seat-iterator.rest.items;
  seats : AllZip (WasSynchronised l.head l.first (history_of l.known)) l.yielded l.all.items;
  room : length l.seat-iterator.rest.items + vec_len l.all ≤ vec_capacity l.all;
}
