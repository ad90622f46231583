use Rattle.camp_questions.proofs.Words.{◌≡◌, drop, with_needing}
use Rattle.camp_questions.proofs.pictures.needing.Given as goal

abbrev pub invariant-loop-node : goal.invariant-loop-node
invariant-loop-node l = with_needing (drop l.node-index l.nodes) l.needing.items ≡ with_needing l.nodes l.names
