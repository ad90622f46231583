use Rattle.std.proofs.Common.{arith}
use Rattle.camp_shared.proofs.FitLemmas.{can_at, full}
use Rattle.camp_shared.proofs.wanting.fitting.Goals as goal

pub noted_len-requires : goal.noted_len-requires
noted_len-requires c = (can_at c.args.waiting.now c.loop-request.request-index c.request-item.result c.loop-request-test.true c.request-item.is c.requires).0

pub returns-then-count-eq-MAX_CALLS : goal.returns-then-count-eq-MAX_CALLS
returns-then-count-eq-MAX_CALLS c =
    let some = c.if-count-eq-MAX_CALLS.true in
    full c.args.waiting.now c.loop-request.count c.loop-request.bytes c.loop-request.invariant.1 (omega (arith, some))
