use Rattle.camp_clients.proofs.Words.{SaysSomewhere, begun, arith, common_steps}
use Rattle.camp_clients.proofs.Gathering.{zip_more}
use Rattle.camp_clients.proofs.locks.ask_locked.Goals as goal

pub loop-call-preserved : goal.loop-call-preserved
loop-call-preserved g c =
    let inv = c.loop-call.invariant in
    let kept = c.in_ok-unless_memory.ensures in
    record {
      says = rw (c.push_reserved.ensures.items, kept.0)
          (zip_more (SaysSomewhere (begun g.State.Object.object c.args.first.now)) c.args.calls.now c.loop-call.call-index c.call-item.result c.loop-call-test.true c.call-item.is
          c.loop-call.answers.items c.in_ok-answer.answer inv.says (c.in_ok-answer.ensures kept.1));
      so_far = omega (arith, inv.so_far, c.push_reserved.ensures.len);
      space = omega (arith, inv.space, c.push_reserved.ensures.capacity);
    }

pub returns : goal.returns
returns g c = grind (arith, common_steps)
