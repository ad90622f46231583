use Rattle.camp_history.proofs.Words.{◌<◌, All-map, seat_and_call, marks_in}
use Rattle.camp_history.proofs.seats.Seat.number.Goals as goal

pub returns-clause-seats_below : goal.returns-clause-seats_below
returns-clause-seats_below g c =
    rw (← c.self.view_is) (All-map (λ entry. entry.0 < c.self.inside.pass.row.seats) seat_and_call (marks_in c.self.inside) c.self.invariant.below)
