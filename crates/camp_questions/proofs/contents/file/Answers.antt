use Rattle.camp_questions.proofs.Words.{get, refl, IfOk-weaker}
use Rattle.camp_questions.specs.Files.{HasAt}
use Rattle.camp_questions.proofs.Answering.{such_told}
use Rattle.camp_questions.proofs.contents.file.Goals as goal

pub returns : goal.returns
returns c =
    let leads = c.tree.ensures.exact in
    record { exact = such_told c.args.state.now c.args.branch.now c.in_ok-branch.ensures (λ b. HasAt b c.args.path.now) c.file_at.result c.answer_or_memory.result c.answer_or_memory.ensures (IfOk-weaker c.file_at.result _ _ (λ lines is. (c.tree.result.now, leads, is)) c.file_at.ensures) (get c.tree.result.now c.args.path.now) (c.tree.result.now, leads, refl) }
