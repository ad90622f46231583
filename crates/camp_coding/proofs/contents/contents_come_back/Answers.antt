use Rattle.camp_coding.proofs.ContentLemmas.{come_back}
use Rattle.camp_coding.proofs.contents.contents_come_back.Goals as goal

pub returns : goal.returns
returns c = come_back
