use Rattle.camp_uses.proofs.Turned.{each_has_value}
use Rattle.camp_uses.proofs.catches.both.Goals as goal

pub returns : goal.returns
returns g c = record { exact = rw c.zip.ensures (each_has_value _ _ _ c.in_ok-there.was) }
