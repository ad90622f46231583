use Rattle.camp_shared.proofs.ReadLemmas.{same_tag_adds_nothing}
use Rattle.camp_shared.proofs.laws.each_tag_of_texts_counts_once.Goals as goal

pub returns : goal.returns
returns c = record { law = same_tag_adds_nothing }
