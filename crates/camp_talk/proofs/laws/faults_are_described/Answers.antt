use Rattle.camp_talk.proofs.CutOff.{faults_described}
use Rattle.camp_talk.proofs.laws.faults_are_described.Goals as goal

pub returns : goal.returns
returns c = record { law = faults_described }
