use Rattle.camp_questions.proofs.Words.{◌∙◌}
use Rattle.camp_questions.proofs.pictures.picture_in.Goals as goal

pub returns : goal.returns
returns c =
    let pairs = c.in_ok-unsettled.unsettled in
    let drawn = c.in_ok-part.ensures in
    (drawn.0, pairs, (λ i. record { patches = c.into_parts-patches.ensures.patches i; conflicts = c.into_parts-patches.ensures.conflicts i; unsettled = pairs }) ∙ drawn.2 pairs, drawn.1, c.in_ok-unsettled.ensures)
