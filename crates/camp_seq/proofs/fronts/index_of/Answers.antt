use Rattle.camp_seq.proofs.Words.{subst, arith, take_all, LacksLabel}
use Rattle.camp_seq.proofs.fronts.index_of.Goals as goal

pub returns : goal.returns
returns c = subst (LacksLabel c.args.label.now) (take_all c.loop-at.at c.args.items.now (omega arith)) c.loop-at.invariant
