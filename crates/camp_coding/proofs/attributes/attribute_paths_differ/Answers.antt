use Rattle.camp_coding.proofs.AttributeLemmas.{differ}
use Rattle.camp_coding.proofs.attributes.attribute_paths_differ.Goals as goal

pub returns : goal.returns
returns c = differ
