use Rattle.camp_questions.proofs.Words.{List, ◌∙◌, ap, arith, map, ℕ, take_all, node_in, needing, Node, Needed}
use Rattle.camp_questions.proofs.PlacedNeeds.{one_node}
use Rattle.camp_questions.proofs.nodes.nodes.Goals as goal

pub loop-at-preserved : goal.loop-at-preserved
loop-at-preserved c =
    let names : List (List ℕ) = c.args.names.now in
    let p : Needed = c.index-all-at.result in
    let node : Node = record { name = p.name; needs = c.in_ok-needs.needs } in
    one_node (node_in names (map (needing names) c.args.all.now)) (needing names) c.args.all.now c.loop-at.at p p c.loop-at.nodes.items c.push.new.self.items node (omega arith) c.index-all-at.is c.loop-at.invariant (λ k. record { name = p.name; needs = c.in_ok-needs.ensures k }) c.in_ok-push.ensures.items

pub returns : goal.returns
returns c =
    let names : List (List ℕ) = c.args.names.now in
    c.loop-at.invariant ∙ ap (λ l. map (node_in names (map (needing names) c.args.all.now)) (map (needing names) l)) (take_all c.loop-at.at c.args.all.now (omega arith))
