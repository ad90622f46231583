use Rattle.camp_questions.proofs.Words.{IfOk-weaker, refl, Needs}
use Rattle.camp_questions.proofs.Answering.{Such, told_with}
use Rattle.camp_questions.proofs.BranchGrowths.{needs_are_determined}
use Rattle.camp_questions.proofs.dependencies.needs.Goals as goal

pub returns : goal.returns
returns c =
    let one = needs_are_determined c.in_ok-branch.branch.now c.args.names.now in
    record { exact = told_with c.args.state.now c.args.branch.now c.args.names.now c.in_ok-branch.ensures (λ b. Such (Needs b c.args.names.now)) c.needed_in.result c.answer_or_memory.result c.answer_or_memory.ensures (IfOk-weaker c.needed_in.result _ _ (λ names w. (names, refl, w)) c.needed_in.ensures) one.0 (one.0, refl, one.1) }
