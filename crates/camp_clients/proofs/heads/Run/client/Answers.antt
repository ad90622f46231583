use Rattle.camp_clients.proofs.Words.{arith, common_steps}
use Rattle.camp_clients.proofs.heads.Run.client.Goals as goal

pub returns : goal.returns
returns g c = grind (arith, common_steps)
