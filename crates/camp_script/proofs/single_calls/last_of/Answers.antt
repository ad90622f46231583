use Rattle.camp_script.proofs.SingleCalls.{popped}
use Rattle.camp_script.proofs.single_calls.last_of.Goals as goal

pub returns-clause-can : goal.returns-clause-can
returns-clause-can c = popped c.args.sections.items c.pop.new.self.items c.in_ok-calls.calls c.pop-2.new.self.items c.pop-2.result c.in_ok-calls.ensures.items c.pop-2.ensures.items
