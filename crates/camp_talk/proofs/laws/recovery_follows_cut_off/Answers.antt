use Rattle.camp_talk.proofs.CutOff.{recovery_follows}
use Rattle.camp_talk.proofs.laws.recovery_follows_cut_off.Goals as goal

pub returns : goal.returns
returns c = record { law = recovery_follows }
