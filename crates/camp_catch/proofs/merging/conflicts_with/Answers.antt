use Rattle.camp_catch.proofs.Words.{IfOk-weaker}
use Rattle.camp_catch.proofs.merging.conflicts_with.Goals as goal

pub returns : goal.returns
returns c =
    IfOk-weaker c.conflict.result _ _ (λ found told. record { seen = c.in_ok-seen.seen; sees = c.in_ok-seen.ensures.exact; tells = rw c.in_ok-own.ensures at told }) c.conflict.ensures.exact
