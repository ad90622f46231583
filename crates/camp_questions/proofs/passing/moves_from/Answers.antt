use Rattle.camp_questions.proofs.Words.{◌≡◌, ◌+◌, ◌-◌, arith, bare, hunk_at}
use Rattle.camp_questions.proofs.PassedChanges.{at_first, in_range_there, one_more_added, swaps_by}
use Rattle.camp_questions.proofs.passing.moves_from.Goals as goal

pub loop-at-init : goal.loop-at-init
loop-at-init c = record {
  range = in_range_there c.args.hunk.now c.line-line.result c.line-line.ensures.value c.line-line.ensures.in_range;
  added = at_first c.args.changes.now _ c.line-line.result c.args.patch.now c.args.hunk.now (omega arith) c.line-line.ensures.value c.requires;
}

pub loop-at-preserved : goal.loop-at-preserved
loop-at-preserved c =
    let patch = c.args.patch.now in
    let hunk = c.args.hunk.now in
    let follows : c.loop-at.at - 1 + 1 ≡ c.loop-at.at = omega arith in
    record {
      range = c.in-Some.ensures.range;
      added = one_more_added c.args.changes.now (c.loop-at.at - 1) c.loop-at.at c.index-changes-at.result (bare patch) (bare (hunk_at patch hunk c.loop-at.line)) (bare (hunk_at patch hunk c.in-Some.next)) follows (omega arith) c.index-changes-at.is c.loop-at.invariant.added
          (swaps_by c.index-changes-at.result (hunk_at patch hunk c.loop-at.line) (hunk_at patch hunk c.in-Some.next) c.in-Some.ensures.passes.0 c.in-Some.ensures.passes.1);
    }
