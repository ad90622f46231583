use Rattle.camp_store.proofs.BlockLemmas.{decodes_once}
use Rattle.camp_store.proofs.laws.files_decode_to_one_list.Goals as goal

pub returns : goal.returns
returns c = record { law = decodes_once }
