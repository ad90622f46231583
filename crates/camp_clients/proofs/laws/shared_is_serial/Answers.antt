use Rattle.camp_clients.proofs.Single.{shared_is_serial}
use Rattle.camp_clients.proofs.laws.shared_is_serial.Goals as goal

pub returns : goal.returns
returns g c = record { law = shared_is_serial g.State.Object.object }
