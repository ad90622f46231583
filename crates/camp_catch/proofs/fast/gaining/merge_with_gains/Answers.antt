use Rattle.std.proofs.Common.{refl}
use Rattle.camp_catch.proofs.fast.gaining.merge_with_gains.Goals as goal

pub returns-then-not-branch : goal.returns-then-not-branch
returns-then-not-branch c =
    let stopped = rw (c.if-not-branch.true, c.in_ok-first.ensures, c.in_ok-second.ensures) at c.in_ok-merge_one.ensures.exact in
    record { exact = (stopped.0, refl) }
