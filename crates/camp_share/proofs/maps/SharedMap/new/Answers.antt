use Rattle.camp_share.proofs.Entries.{map_of_none}
use Rattle.camp_share.proofs.maps.SharedMap.new.Goals as goal

pub returns : goal.returns
returns g c = record { exact = map_of_none _ g.met.K.Ord.total _ c.empty.ensures }
