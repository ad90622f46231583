use Rattle.camp_clients.proofs.OpeningAlone.{opening_alone}
use Rattle.camp_clients.proofs.laws.opening_is_alone.Goals as goal

pub returns : goal.returns
returns g c = record { law = opening_alone g.State.Object.object }
