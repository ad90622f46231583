use Rattle.camp_clients.proofs.Words.{ap, arith, length}
use Rattle.camp_clients.proofs.Gathering.{gathers_push}
use Rattle.camp_clients.proofs.sections.gather.Goals as goal

pub loop-own-preserved : goal.loop-own-preserved
loop-own-preserved g c =
    let inv = c.loop-own.invariant in
    record {
      gathers = rw c.push_reserved.ensures.items (
          gathers_push c.args.first.items c.loop-own.yielded c.loop-own.all.items c.in-Some.own c.in_ok-own.field-0 inv.gathers c.in_ok-own.was
          );
      room = omega (arith, ap length c.in-Some.ensures.steps.0, inv.room, c.push_reserved.ensures.len, c.push_reserved.ensures.capacity);
    }
