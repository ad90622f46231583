use Rattle.camp_run.proofs.StoredTexts.{seat_zero_is_preserved}
use Rattle.camp_run.proofs.laws.seat_zero_is_preserved.Goals as goal

pub returns : goal.returns
returns c = record { law = seat_zero_is_preserved }
