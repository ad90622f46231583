use Rattle.camp_coding.proofs.EscapeLemmas.{paths_differ}
use Rattle.camp_coding.proofs.paths.escaped_paths_differ.Goals as goal

pub returns : goal.returns
returns c = paths_differ
