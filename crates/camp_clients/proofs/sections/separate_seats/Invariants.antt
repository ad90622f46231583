use Rattle.camp_clients.proofs.Words.{◌+◌, ◌≤◌, length, AreSeparated, vec_capacity, vec_len}
use Rattle.camp_clients.proofs.sections.separate_seats.Given as goal

abbrev pub invariant-loop-one : goal.invariant-loop-one
invariant-loop-one g l = record {
  apart : AreSeparated l.fn.opening l.yielded l.seats.items l.all.items;
  room : length l.one-iterator.rest.items + vec_len l.seats ≤ vec_capacity l.seats;
  room_all : length l.one-iterator.rest.items + vec_len l.all ≤ vec_capacity l.all;
}
