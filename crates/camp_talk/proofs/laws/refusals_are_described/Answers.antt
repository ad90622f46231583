use Rattle.camp_talk.proofs.Reports.{refusals_described}
use Rattle.camp_talk.proofs.laws.refusals_are_described.Goals as goal

pub returns : goal.returns
returns c = record { law = refusals_described }
