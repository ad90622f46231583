use Rattle.std.proofs.Common.{rules}
use Rattle.camp_history.proofs.Words.{begun}
use Rattle.camp_history.proofs.AskLemmas.{one_seat_not_busy}
use Rattle.camp_history.proofs.heads.Head.ask_at.Goals as goal

pub returns-clause-seat : goal.returns-clause-seat
returns-clause-seat g c = search rules

pub returns-clause-caller : goal.returns-clause-caller
returns-clause-caller g c = search rules

pub returns-clause-asks : goal.returns-clause-asks
returns-clause-asks g c = search rules

pub returns-clause-one_seat : goal.returns-clause-one_seat
returns-clause-one_seat g c =
    one_seat_not_busy (begun g.State.Object.object c.args.self.now.first) c.args.self.now c.args.seat.now c.match-kept.seat c.args.kept.call c.match-kept.answer
    (rw (← c.self.view_is) c.self.invariant.tries) (returns-clause-seat g c) (returns-clause-caller g c)
    c.show_invariant.ensures.below c.show_invariant.ensures.seats_below (returns-clause-asks g c)
