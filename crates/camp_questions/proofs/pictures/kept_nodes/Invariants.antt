use Rattle.camp_questions.proofs.Words.{◌≡◌, take, map, filter, has_name, kept_node, Node}
use Rattle.camp_questions.proofs.pictures.kept_nodes.Given as goal

abbrev pub invariant-loop-node : goal.invariant-loop-node
invariant-loop-node l = l.left.items ≡ map (kept_node (has_name l.kept)) (filter (λ (node : Node). has_name l.kept node.name) (take l.node-index l.nodes))
