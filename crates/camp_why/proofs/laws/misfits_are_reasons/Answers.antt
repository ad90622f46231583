use Rattle.camp_why.proofs.Misfitting.{is_misfit, none_applies, not_applied}
use Rattle.camp_why.proofs.laws.misfits_are_reasons.Goals as goal

pub returns : goal.returns
returns c = record { law = record { reported = is_misfit; prevents = not_applied; none = none_applies } }
