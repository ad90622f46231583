use Rattle.camp_talk.proofs.Served.{served_in_turn}
use Rattle.camp_talk.proofs.laws.requests_are_served_in_turn.Goals as goal

pub returns : goal.returns
returns g c = record { law = λ history_of. served_in_turn g.B.Backend g.F.Framing history_of }
