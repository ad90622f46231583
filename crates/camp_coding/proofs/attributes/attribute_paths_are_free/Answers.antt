use Rattle.camp_coding.proofs.AttributeLemmas.{are_free}
use Rattle.camp_coding.proofs.attributes.attribute_paths_are_free.Goals as goal

pub returns : goal.returns
returns c = are_free
