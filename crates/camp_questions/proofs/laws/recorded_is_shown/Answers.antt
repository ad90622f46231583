use Rattle.camp_questions.proofs.ShownPatches.{recorded_is_shown as the_law}
use Rattle.camp_questions.proofs.laws.recorded_is_shown.Goals as goal

pub returns : goal.returns
returns c = record { law = the_law }
