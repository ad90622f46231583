use Rattle.camp_stream.proofs.QuoteLemmas.{come_back}
use Rattle.camp_stream.proofs.quoting.quoted_paths_come_back.Goals as goal

pub returns : goal.returns
returns c = come_back
