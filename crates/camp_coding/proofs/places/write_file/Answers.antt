use Rattle.camp_coding.proofs.PlaceLemmas.{written}
use Rattle.camp_coding.proofs.places.write_file.Goals as goal

pub returns : goal.returns
returns c = written _ _ _ _ _ c.in_ok-add_file.ensures.exact c.in_ok-splice.ensures.exact
