use Rattle.camp_stream.proofs.ItemLemmas.{items_back}
use Rattle.camp_stream.proofs.writing.items_come_back.Goals as goal

pub returns : goal.returns
returns c = items_back
