use Rattle.camp_run.proofs.Serial.{shared_section}
use Rattle.camp_run.proofs.laws.shared_section_is_serial.Goals as goal

pub returns : goal.returns
returns c = record { law = shared_section }
