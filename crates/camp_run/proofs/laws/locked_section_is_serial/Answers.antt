use Rattle.camp_run.proofs.Serial.{locked_section}
use Rattle.camp_run.proofs.laws.locked_section_is_serial.Goals as goal

pub returns : goal.returns
returns c = record { law = locked_section }
