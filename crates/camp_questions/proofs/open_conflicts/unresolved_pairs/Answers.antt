use Rattle.camp_questions.proofs.Words.{AreUnresolvedIn}
use Rattle.camp_questions.proofs.Answering.{such_wanted}
use Rattle.camp_questions.proofs.open_conflicts.unresolved_pairs.Goals as goal

pub returns : goal.returns
returns c =
    record { exact = such_wanted c.args.state.now c.args.branch.now c.in_ok-branch.ensures AreUnresolvedIn c.unresolved_in.result c.answer_or_memory.result c.answer_or_memory.ensures c.unresolved_in.ensures }
