use Rattle.camp_history.proofs.Words.{marks_in, sym, ap, ◌∙◌, entry_count}
use Rattle.camp_history.proofs.Seeing.{length-own}
use Rattle.camp_history.proofs.seats.Seat.accepted.Goals as goal

pub returns-clause-accepted : goal.returns-clause-accepted
returns-clause-accepted g c =
    rw (← c.self.view_is) (
    c.entry_count.ensures.entry_count ∙ ap (entry_count c.self.inside.pass.number) (sym c.self.invariant.entries_are) ∙ sym (length-own c.self.inside.pass.number (marks_in c.self.inside))
    )
