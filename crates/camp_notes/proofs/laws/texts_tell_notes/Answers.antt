use Rattle.camp_notes.proofs.TextLemmas.{tell_notes}
use Rattle.camp_notes.proofs.laws.texts_tell_notes.Goals as goal

pub returns : goal.returns
returns c = record { law = tell_notes }
