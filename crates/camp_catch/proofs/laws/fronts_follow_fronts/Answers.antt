use Rattle.camp_catch.proofs.PlainArranging.{fronts_follow_fronts as the_law}
use Rattle.camp_catch.proofs.laws.fronts_follow_fronts.Goals as goal

pub returns : goal.returns
returns c = record { law = the_law }
