use Rattle.camp_entries.proofs.BodyLemmas.{no_call, only_call}
use Rattle.camp_entries.proofs.calls.only_call_of.Goals as goal

pub returns-in-Some : goal.returns-in-Some
returns-in-Some c = only_call c.args.text.now c.in-Some.calls.items c.only_one.result (rw c.in-Some.is at c.in_ok-calls.ensures) c.only_one.ensures

pub returns-in-None : goal.returns-in-None
returns-in-None c = no_call c.args.text.now (rw c.in-None.is at c.in_ok-calls.ensures)
