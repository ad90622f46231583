use Rattle.camp_script.proofs.Writable.{read_is_writable}
use Rattle.camp_script.proofs.canonical.what_is_read_can_be_written.Goals as goal

pub returns : goal.returns
returns c = record { law = read_is_writable }
