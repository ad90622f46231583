use Rattle.camp_talk.proofs.RunLemmas.{responses_durable}
use Rattle.camp_talk.proofs.engine.runs.responses_are_durable.Goals as goal

pub returns : goal.returns
returns g c = record { law = responses_durable g.B.Backend g.F.Framing g.met.B.Backend.execute_persists g.met.B.Backend.commit_persists }
