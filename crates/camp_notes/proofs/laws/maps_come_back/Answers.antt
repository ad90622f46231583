use Rattle.camp_notes.proofs.MapLemmas.{maps_back}
use Rattle.camp_notes.proofs.laws.maps_come_back.Goals as goal

pub returns : goal.returns
returns c = record { law = maps_back }
