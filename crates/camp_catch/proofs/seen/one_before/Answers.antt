use Rattle.std.proofs.lemmas.Result.{IfOk-weaker}
use Rattle.camp_catch.proofs.seen.one_before.Goals as goal

pub returns : goal.returns
returns c =
    IfOk-weaker c.set_before.result _ _ (λ made w. record { effect = w.effect; conflicts = w.conflicts; identity = rw w.identity c.in_ok-identity.ensures.exact }) c.set_before.ensures
