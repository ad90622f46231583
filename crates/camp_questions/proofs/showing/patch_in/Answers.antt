use Rattle.camp_questions.proofs.Words.{◌∙◌, ap, changes_of}
use Rattle.camp_questions.proofs.showing.patch_in.Goals as goal

pub returns : goal.returns
returns c =
    let changes = c.in_ok-changes.ensures ∙ ap changes_of (c.deref.ensures.value ∙ c.in_ok-catches.ensures) in
    λ i. record { catches = c.in_ok-catches.ensures i; changes = changes i }
