use Rattle.camp_script.proofs.SingleCalls.{is_none, is_only}
use Rattle.camp_script.proofs.single_calls.only_call_of.Goals as goal

pub returns-in-Some : goal.returns-in-Some
returns-in-Some c =
    let reads = rw c.in-Some.is at c.in_ok-sections.ensures in
    is_only c.args.text.now _ c.last_of.result reads c.last_of.ensures.alone c.last_of.ensures.can

pub returns-in-None : goal.returns-in-None
returns-in-None c =
    let none = rw c.in-None.is at c.in_ok-sections.ensures in
    is_none c.args.text.now none
