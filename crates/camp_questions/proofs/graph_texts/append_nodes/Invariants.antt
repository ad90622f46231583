use Rattle.camp_questions.proofs.Words.{◌≡◌, ◌++◌, take, string_bytes, flat_map, node_text}
use Rattle.camp_questions.proofs.graph_texts.append_nodes.Given as goal

abbrev pub invariant-loop-node : goal.invariant-loop-node
invariant-loop-node l = string_bytes l.text ≡ string_bytes l.initial.text ++ flat_map node_text (take l.node-index l.nodes)
