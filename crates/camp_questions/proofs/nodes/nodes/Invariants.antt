use Rattle.camp_questions.proofs.Words.{◌≡◌, map, take, node_in, needing}
use Rattle.camp_questions.proofs.nodes.nodes.Given as goal

abbrev pub invariant-loop-at : goal.invariant-loop-at
invariant-loop-at l =
    l.nodes.items ≡ map (node_in l.names (map (needing l.names) l.all)) (map (needing l.names) (take l.at l.all))
