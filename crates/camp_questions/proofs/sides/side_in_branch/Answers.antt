use Rattle.camp_questions.proofs.Words.{ap, ◌∙◌, changes_in}
use Rattle.camp_questions.proofs.sides.side_in_branch.Goals as goal

pub returns : goal.returns
returns c =
    (c.in_ok-side.side, c.in_ok-changes.ensures ∙ ap changes_in c.items.ensures.exact, c.in_ok-side.ensures)
