use Rattle.camp_questions.proofs.PassedChanges.{label_moved}
use Rattle.camp_questions.proofs.passing.passed_by.Goals as goal

pub returns-clause-added : goal.returns-clause-added
returns-clause-added c =
    label_moved c.args.changes.now c.moves_from-stop.result.0 c.moves_from-stop.result.1 c.args.x.now c.in_ok-moved.moved c.patch.result.now c.in-Some.hunk.now c.in-Some.ensures.none c.patch.ensures.exact c.in_ok-moved.ensures c.moves_from-stop.ensures.added
