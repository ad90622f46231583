use Rattle.camp_coding.proofs.PlaceLemmas.{cleared, cleared_none}
use Rattle.camp_coding.proofs.places.clear_file.Goals as goal

pub returns-in-None : goal.returns-in-None
returns-in-None c = cleared_none _ _ c.in-None.ensures.exact

pub returns : goal.returns
returns c = cleared _ _ _ _ _ c.in_ok-splice.ensures.exact c.in_ok-remove_file.ensures.exact
