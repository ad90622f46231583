use Rattle.camp_coding.proofs.PlaceLemmas.{set_again}
use Rattle.camp_coding.proofs.places.set_file.Goals as goal

pub returns-in-None : goal.returns-in-None
returns-in-None c = rw c.in-None.is c.in_ok-clear_file.ensures

pub returns : goal.returns
returns c = rw c.in-Some.is (set_again _ _ _ _ _ _ c.in_ok-clear_file.ensures c.in_ok-write_file.ensures)
