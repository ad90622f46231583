use Rattle.camp_talk.proofs.Reports.{causes_reported}
use Rattle.camp_talk.proofs.laws.causes_are_reported.Goals as goal

pub returns : goal.returns
returns c = record { law = causes_reported }
