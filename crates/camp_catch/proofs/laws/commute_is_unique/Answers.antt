use Rattle.camp_catch.proofs.CommuteCases.{one_commuting}
use Rattle.camp_catch.proofs.laws.commute_is_unique.Goals as goal

pub returns : goal.returns
returns c = record { law = one_commuting }
