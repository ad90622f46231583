use Rattle.camp_questions.proofs.Words.{◌≡◌, ◌+◌, ◌-◌, ◌∙◌, ap, arith, drop, drop_all, sym, with_needs}
use Rattle.camp_questions.proofs.Picturing.{one_brought}
use Rattle.camp_questions.proofs.pictures.needed.Goals as goal

pub loop-at-init : goal.loop-at-init
loop-at-init c =
    c.in_ok-needed.ensures.items ∙ ap (λ l. with_needs l c.args.names.now) (sym (drop_all _ c.args.nodes.now (omega arith)))

pub loop-at-preserved : goal.loop-at-preserved
loop-at-preserved c =
    let follows : c.loop-at.at - 1 + 1 ≡ c.loop-at.at = omega arith in
    one_brought c.args.nodes.now (c.loop-at.at - 1) c.loop-at.at c.index-nodes-at.result c.index-nodes-at.result c.args.names.now c.loop-at.needed.items c.add_dependencies.new.names.items follows (omega arith) c.index-nodes-at.is c.loop-at.invariant c.in_ok-add_dependencies.ensures

pub returns : goal.returns
returns c =
    let none : c.loop-at.at ≡ 0 = omega arith in
    c.loop-at.invariant ∙ ap (λ n. with_needs (drop n c.args.nodes.now) c.args.names.now) none
