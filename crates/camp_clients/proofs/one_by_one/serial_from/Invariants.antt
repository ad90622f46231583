use Rattle.camp_clients.proofs.Words.{◌≡◌, ◌≤◌, [], length, take, OneByOne, begun, lists_of, vec_capacity, vec_len}
use Rattle.camp_clients.proofs.one_by_one.serial_from.Given as goal

abbrev pub invariant-loop-seat : goal.invariant-loop-seat
invariant-loop-seat g l = record {
  begins : l.book.first ≡ l.fn.first;
  so_far : OneByOne (begun g.State.Object.object l.fn.first) 0 [] (lists_of (take l.seat l.sections)) (lists_of l.answers.items) l.book.calls;
  answered : vec_len l.answers ≡ l.seat;
  space : length l.sections ≤ vec_capacity l.answers;
}
