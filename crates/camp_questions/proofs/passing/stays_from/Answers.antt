use Rattle.camp_questions.proofs.Words.{◌≡◌, ◌+◌, ◌-◌, arith, refl}
use Rattle.camp_questions.proofs.PassedChanges.{none_added, one_more_added}
use Rattle.camp_questions.proofs.passing.stays_from.Goals as goal

pub loop-at-init : goal.loop-at-init
loop-at-init c = none_added c.args.changes.now _ c.args.x.now c.args.x.now (omega arith) refl

pub loop-at-preserved : goal.loop-at-preserved
loop-at-preserved c =
    let follows : c.loop-at.at - 1 + 1 ≡ c.loop-at.at = omega arith in
    one_more_added c.args.changes.now (c.loop-at.at - 1) c.loop-at.at c.index-changes-at.result c.args.x.now c.args.x.now c.args.x.now follows (omega arith) c.index-changes-at.is c.loop-at.invariant (c.stays_unchanged.ensures.sound c.if-not-stays_unchanged.false)
