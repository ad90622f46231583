use Rattle.camp_clients.proofs.Words.{ap, arith, length}
use Rattle.camp_clients.proofs.Gathering.{separated_push}
use Rattle.camp_clients.proofs.sections.separate_seats.Goals as goal

pub loop-one-preserved : goal.loop-one-preserved
loop-one-preserved g c =
    let inv = c.loop-one.invariant in
    let next = ap length c.in-Some.ensures.steps.0 in
    record {
      apart = rw (c.push_reserved-in-loop-one.ensures.items, c.push_reserved-in-loop-one-2.ensures.items)
          (separated_push c.args.opening c.loop-one.yielded c.loop-one.seats.items c.loop-one.all.items c.in-Some.one _ _ inv.apart c.in_ok-seat.was);
      room = omega (arith, next, inv.room, c.push_reserved-in-loop-one.ensures.len, c.push_reserved-in-loop-one.ensures.capacity);
      room_all = omega (arith, next, inv.room_all, c.push_reserved-in-loop-one-2.ensures.len, c.push_reserved-in-loop-one-2.ensures.capacity);
    }
