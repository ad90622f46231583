use Rattle.camp_catch.proofs.PlainArranging.{blockers_are_included as the_law}
use Rattle.camp_catch.proofs.laws.blockers_are_included.Goals as goal

pub returns : goal.returns
returns c = record { law = the_law }
