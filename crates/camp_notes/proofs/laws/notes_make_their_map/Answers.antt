use Rattle.camp_notes.proofs.MapLemmas.{make_their_map}
use Rattle.camp_notes.proofs.laws.notes_make_their_map.Goals as goal

pub returns : goal.returns
returns c = record { law = make_their_map }
