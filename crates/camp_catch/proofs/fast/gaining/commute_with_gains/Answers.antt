use Rattle.std.proofs.Common.{ap}
use Rattle.camp_catch.proofs.fast.gaining.commute_with_gains.Goals as goal

pub returns-then-not-branch : goal.returns-then-not-branch
returns-then-not-branch c =
    let stopped = rw (c.if-not-branch.true, c.in_ok-settled.ensures) at c.in_ok-commute_in_place.ensures.exact in
    record { exact = (stopped.0, ap (λ x. (c.args.j.now, x.1)) stopped.1) }
