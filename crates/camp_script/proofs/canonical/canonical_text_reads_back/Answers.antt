use Rattle.camp_script.proofs.CanonicalCalls.{reads_back}
use Rattle.camp_script.proofs.canonical.canonical_text_reads_back.Goals as goal

pub returns : goal.returns
returns c = record { law = reads_back }
