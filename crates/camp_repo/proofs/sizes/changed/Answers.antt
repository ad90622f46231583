use Rattle.camp_repo.proofs.Words.{arith, sym}
use Rattle.camp_repo.proofs.ChangedSteps.{leads_nowhere, leads_to_next, leads_too_far}
use Rattle.camp_repo.proofs.sizes.changed.Goals as goal

pub returns-in-Err-DoesNotApply : goal.returns-in-Err-DoesNotApply
returns-in-Err-DoesNotApply c =
    let never = rw c.in-Err-DoesNotApply.field-0-is at c.in-Err-DoesNotApply.ensures.exact in
    leads_nowhere c.args.changes.now c.loop-change.change-index c.change-item.result c.change-item.result c.loop-change.next _ c.loop-change.invariant (omega arith) c.change-item.is never.0

pub returns-then-leaves_long_file : goal.returns-then-leaves_long_file
returns-then-leaves_long_file c =
    leads_too_far c.args.changes.now c.loop-change.change-index c.change-item.result c.change-item.result c.loop-change.next _ c.loop-change.invariant (omega arith) c.change-item.is c.apply.new.tree c.leaves_long_file.result c.in-Ok.ensures.exact c.leaves_long_file.ensures (sym c.if-leaves_long_file.true)

pub loop-change-preserved : goal.loop-change-preserved
loop-change-preserved c =
    leads_to_next c.args.changes.now c.loop-change.change-index c.change-item.result c.change-item.result c.loop-change.next _ c.loop-change.invariant (omega arith) c.change-item.is c.apply.new.tree c.leaves_long_file.result c.in-Ok.ensures.exact c.leaves_long_file.ensures (sym c.if-leaves_long_file.false)

pub leaves_long_file-requires : goal.leaves_long_file-requires
leaves_long_file-requires c = record { led = (_, c.in-Ok.ensures.exact) }
