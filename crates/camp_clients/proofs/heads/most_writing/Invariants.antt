use Rattle.camp_clients.proofs.Words.{ℕ, ◌<◌, ◌≤◌, count_by, get_or}
use Rattle.camp_clients.proofs.heads.most_writing.Given as goal

abbrev pub invariant-loop-calls : goal.invariant-loop-calls
invariant-loop-calls g l = record {
  some : 0 < l.most;
  few : l.most ≤ 65536;
  room : (k : ℕ) (d : _) → k < l.calls-index → count_by g.State.Object.object.is_writing (get_or l.sections k d).items ≤ l.most;
}
