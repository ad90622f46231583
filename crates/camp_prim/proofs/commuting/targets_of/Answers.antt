use Rattle.camp_prim.proofs.Moving.{finds_along}
use Rattle.camp_prim.proofs.commuting.targets_of.Goals as goal

pub returns : goal.returns
returns c = finds_along _ _ _ _ _ c.in-Hunk.is c.in-Hunk-q.is c.hunk_targets.ensures
