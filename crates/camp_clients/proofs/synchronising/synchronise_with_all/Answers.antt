use Rattle.camp_clients.proofs.Words.{sym, subst, arith, All, IsSeatOf, history_of, WasSynchronised, HasAllOfSeat}
use Rattle.camp_clients.proofs.SynchronisedRuns.{zip_all, all_synchronised, all_synchronised_again}
use Rattle.camp_clients.proofs.synchronising.synchronise_with_all.Goals as goal

pub synchronise_each_with-requires-clause-seats : goal.synchronise_each_with-requires-clause-seats
synchronise_each_with-requires-clause-seats g c =
    zip_all (WasSynchronised c.args.head.now c.in_ok-opener.first (history_of c.in_ok-opener.opener)) (IsSeatOf c.args.head.now) (λ before after was. was.is_seat)
    c.args.seats.items c.in_ok-opener.seats.items c.in_ok-opener.ensures.seats

pub returns-then-first-position-clause-seats : goal.returns-then-first-position-clause-seats
returns-then-first-position-clause-seats g c =
    all_synchronised c.args.head.now c.in_ok-opener.first (history_of c.in_ok-opener.opener) c.args.seats.items c.in_ok-opener.seats.items
    (omega arith) c.in_ok-opener.ensures.seats

pub returns-clause-seats : goal.returns-clause-seats
returns-clause-seats g c =
    let history = history_of c.in_ok-opener.opener in
    subst (λ h. All (HasAllOfSeat h) c.args.seats.items) (sym c.in_ok-_seats.ensures.seen)
    (all_synchronised_again c.args.head.now c.in_ok-opener.first history c.args.seats.items c.in_ok-opener.seats.items c.in_ok-_seats._seats.items
    c.in_ok-opener.ensures.seats c.in_ok-_seats.ensures.seats)
