use Rattle.std.proofs.Common.{◌≡◌}
use Rattle.camp_shared.proofs.FitLemmas.{AreCounted}
use Rattle.camp_shared.proofs.wanting.fitting.Given as goal

abbrev pub invariant-loop-request : goal.invariant-loop-request
invariant-loop-request l = (l.count ≡ l.request-index) × AreCounted l.waiting l.count l.bytes
