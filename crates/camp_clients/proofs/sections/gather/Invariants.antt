use Rattle.camp_clients.proofs.Words.{◌+◌, ◌≤◌, length, Gathers, vec_capacity, vec_len}
use Rattle.camp_clients.proofs.sections.gather.Given as goal

abbrev pub invariant-loop-own : goal.invariant-loop-own
invariant-loop-own g l = record {
  gathers : Gathers l.fn.first.items l.yielded l.all.items;
  room : length l.own-iterator.rest.items + vec_len l.all ≤ vec_capacity l.all;
}
