use Rattle.camp_questions.proofs.Words.{◌≤◌, arith}
use Rattle.camp_questions.proofs.PassedChanges.{ends_within, more_added, none_added}
use Rattle.camp_questions.proofs.passing.seen_before.Goals as goal

pub loop-left-init : goal.loop-left-init
loop-left-init c = record {
  within = omega arith;
  most = omega arith;
  added = none_added c.args.changes.now _ c.args.x.now c.in_ok-seen.seen (omega arith) c.in_ok-seen.ensures.exact;
}

pub loop-left-preserved : goal.loop-left-preserved
loop-left-preserved c =
    let past : c.in_ok-stop.stop ≤ c.loop-left.left = ends_within c.args.changes.now c.loop-left.left c.in_ok-stop.stop c.loop-left.invariant.within c.in_ok-stop.ensures.within in
    let before : c.saturating_sub-from.result ≤ c.in_ok-stop.stop = omega arith in
    record {
      within = omega (arith, past, before, c.loop-left.invariant.within);
      most = c.next_most-most.ensures;
      added = more_added c.args.changes.now c.loop-left.left c.in_ok-stop.stop c.saturating_sub-from.result c.args.x.now c.loop-left.seen c.in_ok-stop.passed c.in_ok-seen-2.seen c.loop-left.invariant.within past before c.loop-left.invariant.added c.in_ok-stop.ensures.added c.in_ok-seen-2.ensures;
    }
