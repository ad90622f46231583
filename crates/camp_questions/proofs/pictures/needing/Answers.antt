use Rattle.camp_questions.proofs.Words.{◌∙◌, ap, arith, drop_all, sym, with_needing}
use Rattle.camp_questions.proofs.Picturing.{one_joined}
use Rattle.camp_questions.proofs.pictures.needing.Goals as goal

pub loop-node-init : goal.loop-node-init
loop-node-init c = ap (with_needing c.args.nodes.now) c.in_ok-needing.ensures.items

pub loop-node-preserved : goal.loop-node-preserved
loop-node-preserved c =
    one_joined c.args.nodes.now c.loop-node.node-index c.node-item.result c.node-item.result c.loop-node.needing.items c.join_needing.new.names.items _ (omega arith) c.node-item.is c.loop-node.invariant c.in_ok-join_needing.ensures

pub returns : goal.returns
returns c =
    sym (ap (λ l. with_needing l c.loop-node.needing.items) (drop_all c.loop-node.node-index c.args.nodes.now (omega arith))) ∙ c.loop-node.invariant
