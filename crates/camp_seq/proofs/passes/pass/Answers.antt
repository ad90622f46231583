use Rattle.camp_seq.proofs.PassingSteps.{passes_where}
use Rattle.camp_seq.proofs.passes.pass.Goals as goal

pub returns : goal.returns
returns c = record { exact = passes_where c.args.s.now c.commute_right-at.new.s c.args.p.now c.commute_right-at.new.p c.commute_right-at.result c.commute_right-at.ensures }
