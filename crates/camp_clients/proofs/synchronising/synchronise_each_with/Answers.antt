use Rattle.camp_clients.proofs.Words.{All-rest, all_zipped_more, left_first, sym, ap, ◌∙◌, subst, arith, length, IsBeginning, IsSeatOf, history_of, IsSynchronised}
use Rattle.camp_clients.proofs.Gathering.{ok_holds}
use Rattle.camp_clients.proofs.synchronising.synchronise_each_with.Goals as goal

pub loop-seat-preserved : goal.loop-seat-preserved
loop-seat-preserved g c =
    let inv = c.loop-seat.invariant in
    let m = c.meet-seat.ensures in
    let next = ap length c.in-Some.ensures.steps.0 in
    let knows = ok_holds (IsBeginning (history_of c.loop-seat.known) (history_of c.meet-seat.result.0)) c.meet-seat.result.2 m.synchronises.b_beginning
    (sym c.is_err.ensures.value ∙ c.if-is_err.false) in
    record {
      seat = m.seats.1;
      number = m.synchronises.b_number ∙ inv.number;
      seen = m.synchronises.b_seen ∙ inv.seen;
      left = All-rest (IsSeatOf c.args.head.now) c.in-Some.seat _ c.loop-seat.seat-iterator.rest.items c.in-Some.ensures.steps.0 inv.left;
      seats = rw c.push_reserved.ensures.items
          (all_zipped_more (IsSynchronised c.args.head.now (history_of c.args.opener)) c.loop-seat.yielded c.loop-seat.all.items c.in-Some.seat _ inv.seats
          (record {
            is_seat = m.seats.0;
            number = m.synchronises.a_number;
            own_stays = m.synchronises.a_own;
            knows = subst (λ h. IsBeginning h (history_of c.meet-seat.result.0)) inv.seen knows;
          }));
      room = omega (arith, next, inv.room, c.push_reserved.ensures.len, c.push_reserved.ensures.capacity);
    }

pub meet-seat-requires : goal.meet-seat-requires
meet-seat-requires g c = (
  left_first (IsSeatOf c.args.head.now) c.loop-seat.seat-iterator.rest.items _ c.in-Some.seat c.in-Some.ensures.steps.0 c.loop-seat.invariant.left,
  c.loop-seat.invariant.seat,
)

pub push_reserved-requires : goal.push_reserved-requires
push_reserved-requires g c = let next = ap length c.in-Some.ensures.steps.0 in omega (arith, next, c.loop-seat.invariant.room)
