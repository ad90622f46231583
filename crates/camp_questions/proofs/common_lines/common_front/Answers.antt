use Rattle.camp_questions.proofs.Words.{arith}
use Rattle.camp_questions.proofs.CommonSteps.{front_within, front_within_too}
use Rattle.camp_questions.proofs.common_lines.common_front.Goals as goal

pub returns-clause-exact : goal.returns-clause-exact
returns-clause-exact c =
    omega (arith, c.loop-at.invariant, front_within c.args.lines.now c.args.others.now, front_within_too c.args.lines.now c.args.others.now)
