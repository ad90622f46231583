use Rattle.camp_questions.proofs.Words.{arith, has_name, kept_node, Node}
use Rattle.camp_questions.proofs.PlaceSteps.{one_more_image}
use Rattle.camp_questions.proofs.pictures.kept_nodes.Goals as goal

pub loop-node-preserved : goal.loop-node-preserved
loop-node-preserved c =
    one_more_image (kept_node (has_name c.args.kept.now)) (λ (node : Node). has_name c.args.kept.now node.name) c.args.nodes.now c.loop-node.node-index c.node-item.result c.node-item.result c.loop-node.left.items c.push_kept.new.left.items (omega arith) c.node-item.is c.loop-node.invariant c.in_ok-push_kept.ensures
