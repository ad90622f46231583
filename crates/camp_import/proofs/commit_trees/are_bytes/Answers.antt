use Rattle.std.proofs.Common.{◌<◌, ℕ, arith}
use Rattle.std.proofs.lemmas.List.Elements.{All-from_get_or}
use Rattle.camp_import.proofs.commit_trees.are_bytes.Goals as goal

pub returns : goal.returns
returns c = All-from_get_or (λ (b : ℕ). b < 256) c.args._bytes.now 0 (λ i within. omega (arith, c.type_inv._bytes i))
