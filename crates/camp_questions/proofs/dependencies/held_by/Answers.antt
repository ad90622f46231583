use Rattle.camp_questions.proofs.Words.{IfOk-weaker, refl, HeldBy}
use Rattle.camp_questions.proofs.Answering.{Such, told_with}
use Rattle.camp_questions.proofs.BranchGrowths.{held_is_determined}
use Rattle.camp_questions.proofs.dependencies.held_by.Goals as goal

pub returns : goal.returns
returns c =
    let one = held_is_determined c.in_ok-branch.branch.now c.args.names.now in
    record { exact = told_with c.args.state.now c.args.branch.now c.args.names.now c.in_ok-branch.ensures (λ b. Such (HeldBy b c.args.names.now)) c.dependents_in.result c.answer_or_memory.result c.answer_or_memory.ensures (IfOk-weaker c.dependents_in.result _ _ (λ names w. (names, refl, w)) c.dependents_in.ensures) one.0 (one.0, refl, one.1) }
