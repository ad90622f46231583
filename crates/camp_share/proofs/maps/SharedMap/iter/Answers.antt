use Rattle.camp_share.proofs.Words.{sym, ◌∙◌}
use Rattle.camp_share.proofs.MapLemmas.{entries_are}
use Rattle.camp_share.proofs.maps.SharedMap.iter.Goals as goal

pub returns-clause-rest : goal.returns-clause-rest
returns-clause-rest g c = c.iter.ensures.rest ∙ sym (entries_are _ g.met.K.Ord.total _ _ c.self.view_is c.self.invariant.0)
