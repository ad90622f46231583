use Rattle.camp_clients.proofs.Words.{◌≡◌, ◌≤◌, length, take, AllZip, SaysSomewhere, begun, vec_capacity, vec_len}
use Rattle.camp_clients.proofs.locks.ask_locked.Given as goal

abbrev pub invariant-loop-call : goal.invariant-loop-call
invariant-loop-call g l = record {
  says : AllZip (SaysSomewhere (begun g.State.Object.object l.first)) (take l.call-index l.calls) l.answers.items;
  so_far : vec_len l.answers ≡ l.call-index;
  space : length l.calls ≤ vec_capacity l.answers;
}
