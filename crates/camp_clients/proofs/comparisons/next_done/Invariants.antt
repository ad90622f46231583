use Rattle.camp_clients.proofs.Words.{◌≡◌, drop, reported_position, done_at}
use Rattle.camp_clients.proofs.comparisons.next_done.Given as goal

abbrev pub invariant-loop-index : goal.invariant-loop-index
invariant-loop-index g l =
    done_at (reported_position g.State.Object.object) (drop l.fn.from l.calls) (drop l.fn.from l.answers)
    ≡ done_at (reported_position g.State.Object.object) (drop l.index l.calls) (drop l.index l.answers)
