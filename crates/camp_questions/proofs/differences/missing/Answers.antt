use Rattle.camp_questions.proofs.MissingNames.{missing_told}
use Rattle.camp_questions.proofs.differences.missing.Goals as goal

pub returns : goal.returns
returns c =
    record { exact = missing_told c.args.state.now c.args.from.now c.args.to.now c.missing_in.result c.answer_or_memory.result c.in_ok-theirs.ensures c.in_ok-ours.ensures c.answer_or_memory.ensures c.missing_in.ensures }
