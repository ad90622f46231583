use Rattle.camp_history.proofs.Words.{Some, Next, sym, ◌∙◌, ap, history_of, DecidesAt, IfOk-weaker, begun}
use Rattle.camp_history.proofs.AskLemmas.{decided_next}
use Rattle.camp_history.proofs.seats.Seat.next_state.Goals as goal

pub returns : goal.returns
returns g c =
    let object = begun g.State.Object.object c.args.self.now.first in
    let decided : DecidesAt object (history_of c.args.self.now) c.args.call.now (Next c.in-Next.next) = rw c.in-Next.is at c.in_ok-next.ensures in
    IfOk-weaker c.new.result _ _ (λ made is seat.
    decided_next object (history_of c.args.self.now) seat c.args.call.now c.in-Next.next decided ∙ ap Some (sym is)) c.new.ensures.exact
