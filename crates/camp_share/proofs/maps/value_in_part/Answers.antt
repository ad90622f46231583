use Rattle.camp_share.proofs.Words.{sym}
use Rattle.camp_share.proofs.Entries.{absent, present}
use Rattle.camp_share.proofs.maps.value_in_part.Goals as goal

pub returns-in-Ok : goal.returns-in-Ok
returns-in-Ok g c = sym (present _ g.met.K.Ord.total c.args.entries.now c.args.key.now c.in-Ok.place c.index-entries-place.result c.in-Ok.ensures.found c.requires)

pub returns-in-Err : goal.returns-in-Err
returns-in-Err g c = sym (absent _ g.met.K.Ord.total c.args.entries.now c.args.key.now _ c.in-Err.ensures.absent c.requires)
