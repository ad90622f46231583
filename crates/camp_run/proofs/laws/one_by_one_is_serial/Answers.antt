use Rattle.camp_run.proofs.Serial.{serial_sections}
use Rattle.camp_run.proofs.laws.one_by_one_is_serial.Goals as goal

pub returns : goal.returns
returns c = record { law = serial_sections }
