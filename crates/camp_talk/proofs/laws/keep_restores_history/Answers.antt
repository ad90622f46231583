use Rattle.camp_talk.proofs.LoadingKept.{keep_restores_history as the_law}
use Rattle.camp_talk.proofs.laws.keep_restores_history.Goals as goal

pub returns : goal.returns
returns c = record { law = the_law }
