use Rattle.camp_clients.proofs.Words.{All-rest, left_first, ◌≡◌, ◌⊎◌, ◌≤◌, inl, inr, sym, ap, ◌∙◌, subst, arith, length, IsBeginning, own, IsSeatOf, history_of, begins_through, begins_self, length-beginning}
use Rattle.std.proofs.Common.{eqb-true}
use Rattle.camp_clients.proofs.SynchronisedRuns.{one_synchronised, ok_holds}
use Rattle.camp_clients.proofs.synchronising.synchronise_with_each.Goals.{else-is_empty, then-is_empty}
use Rattle.camp_clients.proofs.synchronising.synchronise_with_each.Goals as goal

pub loop-seat-preserved : goal.loop-seat-preserved
loop-seat-preserved g c =
    let inv = c.loop-seat.invariant in
    let m = c.meet-other.ensures in
    let head = c.args.head.now in
    let now = history_of c.meet-other.result.0 in
    let seat = c.in-Some.seat in
    let next = ap length c.in-Some.ensures.steps.0 in
    let is_ok = sym c.is_err.ensures.value ∙ c.if-is_err.false in
    let counted : ((length c.loop-seat.all.items ≡ 0) ⊎ (c.if-is_empty.first ≡ c.loop-seat.first)) × (c.if-is_empty.first ≤ length now) = elim c.if-is_empty.branch [
      | then-is_empty w ↦ (inl (sym c.loop-seat.all.ok.0 ∙ eqb-true _ 0 (sym c.is_empty.ensures ∙ w.if-is_empty.true)), omega (arith, w.first-is, w.position-first.ensures.exact))
      | else-is_empty w ↦ (inr w.first-is, omega (arith, w.first-is, inv.least, length-beginning m.synchronises.a_grows))
    ] in
    record {
      seat = m.seats.0;
      number = m.synchronises.a_number ∙ inv.number;
      grows = begins_through inv.grows m.synchronises.a_grows;
      own_stays = subst (λ n. own n now ≡ own n (history_of c.loop-seat.known)) inv.number m.synchronises.a_own ∙ inv.own_stays;
      least = counted.1;
      left = All-rest (IsSeatOf head) seat _ c.loop-seat.seat-iterator.rest.items c.in-Some.ensures.steps.0 inv.left;
      seats = rw c.push_reserved.ensures.items
          (one_synchronised head c.loop-seat.first c.if-is_empty.first (history_of c.loop-seat.known) now c.loop-seat.yielded c.loop-seat.all.items seat _
          m.synchronises.a_grows inv.seats counted.0
          (record {
            is_seat = m.seats.1;
            number = m.synchronises.b_number;
            seen = m.synchronises.b_seen;
            earlier = now;
            synchronised = record {
              known = ok_holds (IsBeginning (history_of seat) now) c.meet-other.result.2 m.synchronises.b_beginning is_ok;
              own_known = ok_holds (own seat.known.number now ≡ own seat.known.number (history_of seat)) c.meet-other.result.2 m.synchronises.b_own is_ok;
            };
            long = counted.1;
            since = begins_self now;
          }));
      room = omega (arith, next, inv.room, c.push_reserved.ensures.len, c.push_reserved.ensures.capacity);
    }

pub meet-other-requires : goal.meet-other-requires
meet-other-requires g c = (
  c.loop-seat.invariant.seat,
  left_first (IsSeatOf c.args.head.now) c.loop-seat.seat-iterator.rest.items _ c.in-Some.seat c.in-Some.ensures.steps.0 c.loop-seat.invariant.left,
)

pub push_reserved-requires : goal.push_reserved-requires
push_reserved-requires g c = let next = ap length c.in-Some.ensures.steps.0 in omega (arith, next, c.loop-seat.invariant.room)

pub loop-seat-init : goal.loop-seat-init
loop-seat-init g c =
    let opener = c.opener.view_is in
    let first = c.args.opener in
    record {
      seat = subst (IsSeatOf c.args.head.now) (sym opener) c.requires.opener;
      number = ap (λ seat. seat.known.number) opener;
      grows = subst (λ seat. IsBeginning (history_of first) (history_of seat)) (sym opener) (begins_self (history_of first));
      own_stays = ap (λ seat. own first.known.number (history_of seat)) opener;
      least = omega arith;
      left = rw c.into_iter-seat-iterator.ensures.into_iter_gives.0 c.requires.seats;
      seats = rw c.in_ok-all.ensures.items tt;
      room = omega (arith, ap length c.into_iter-seat-iterator.ensures.into_iter_gives.0, c.in_ok-all.ensures.len, c.in_ok-all.ensures.capacity);
    }
