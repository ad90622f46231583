use Rattle.camp_share.proofs.MapLemmas.{len_is, in_order}
use Rattle.camp_share.proofs.maps.SharedMap.len.Goals as goal

pub returns-clause-value : goal.returns-clause-value
returns-clause-value g c = len_is _ g.met.K.Ord.total _ _ c.self.view_is c.self.invariant.0 _ c.len.ensures

pub returns-clause-ordered : goal.returns-clause-ordered
returns-clause-ordered g c = in_order _ g.met.K.Ord.total _ _ c.self.view_is c.self.invariant.0
