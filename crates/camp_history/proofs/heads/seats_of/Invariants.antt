use Rattle.camp_history.proofs.Words.{◌≡◌, [], ◌++◌, map, length, ◌+◌, ◌≤◌, All, unseen, vec_capacity, vec_len}
use Rattle.camp_history.proofs.heads.seats_of.Given as goal

abbrev pub invariant-loop-pass : goal.invariant-loop-pass
invariant-loop-pass g l = record {
  made : l.seats.items ≡ map (unseen l.first) l.yielded;
  whole : l.yielded ++ l.pass-iterator.rest.items ≡ l.fn.passes.items;
  fresh : All (λ known. known.seen ≡ []) l.pass-iterator.rest.items;
  room : length l.pass-iterator.rest.items + vec_len l.seats ≤ vec_capacity l.seats;
}
