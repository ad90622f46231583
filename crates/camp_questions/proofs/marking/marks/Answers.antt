use Rattle.camp_questions.proofs.Words.{Files, LeadsTo, MarksAt, get, IfOk-weaker}
use Rattle.camp_questions.proofs.Answering.{such_wanted}
use Rattle.camp_questions.proofs.marking.marks.Goals as goal

pub returns : goal.returns
returns c =
    record { exact = such_wanted c.args.state.now c.args.branch.now c.in_ok-branch.ensures (λ b told. (tree : Files) × LeadsTo b tree × MarksAt b tree c.args.path.now (get tree c.args.path.now) told) c.marks_at.result c.answer_or_memory.result c.answer_or_memory.ensures (IfOk-weaker c.marks_at.result _ _ (λ told w. (c.tree.result.now, c.tree.ensures.exact, w)) c.marks_at.ensures) }
