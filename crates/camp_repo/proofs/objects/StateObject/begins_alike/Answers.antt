use Rattle.camp_repo.proofs.Words.{ap, sym, ◌∙◌, new_within}
use Rattle.camp_repo.proofs.objects.StateObject.begins_alike.Goals as goal

pub returns : goal.returns
returns c = (
  λ yes. ap new_within (sym c.limits.ensures.exact ∙ c.is_same.ensures.exact.0 yes ∙ c.limits-2.ensures.exact),
  λ same. c.is_same.ensures.exact.1 (c.limits.ensures.exact ∙ ap (λ s. s.limits) same ∙ sym c.limits-2.ensures.exact),
)
