use Rattle.camp_clients.proofs.Words.{◌≡◌, ◌+◌, count_by, drop}
use Rattle.camp_clients.proofs.heads.writing.Given as goal

abbrev pub invariant-loop-call : goal.invariant-loop-call
invariant-loop-call g l =
    l.count + count_by g.State.Object.object.is_writing (drop l.call-index l.calls) ≡ count_by g.State.Object.object.is_writing l.calls
