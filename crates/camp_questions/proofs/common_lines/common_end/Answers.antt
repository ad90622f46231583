use Rattle.camp_questions.proofs.Words.{arith, sym, ◌∙◌}
use Rattle.camp_questions.proofs.CommonSteps.{end_within, end_within_too, no_more_at_end, one_more_at_end}
use Rattle.camp_questions.proofs.common_lines.common_end.Goals as goal

pub returns-then-not-is_same-clause-exact : goal.returns-then-not-is_same-clause-exact
returns-then-not-is_same-clause-exact c =
    no_more_at_end c.args.lines.now c.args.others.now c.loop-at.at c.loop-at.invariant c.index-lines-lines.result c.index-others-others.result (omega arith) (omega arith) c.index-lines-lines.is c.index-others-others.is (sym c.is_same.ensures ∙ c.if-not-is_same.true)

pub loop-at-preserved : goal.loop-at-preserved
loop-at-preserved c =
    one_more_at_end c.args.lines.now c.args.others.now c.loop-at.at c.loop-at.invariant c.index-lines-lines.result c.index-others-others.result (omega arith) (omega arith) c.index-lines-lines.is c.index-others-others.is (sym c.is_same.ensures ∙ c.if-not-is_same.false)

pub returns-clause-exact : goal.returns-clause-exact
returns-clause-exact c =
    omega (arith, c.loop-at.invariant, end_within c.args.lines.now c.args.others.now, end_within_too c.args.lines.now c.args.others.now)
