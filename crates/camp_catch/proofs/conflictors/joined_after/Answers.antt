use Rattle.camp_catch.proofs.Words.{IfOk-weaker}
use Rattle.camp_catch.proofs.conflictors.joined_after.Goals as goal

pub returns : goal.returns
returns c =
    IfOk-weaker c.joined.result _ _ (λ made is. record { moved = _; becomes = c.in_ok-moved.ensures; is = is }) c.joined.ensures
