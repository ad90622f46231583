use Rattle.camp_questions.proofs.Words.{arith, get_or, refl, Range}
use Rattle.camp_questions.proofs.PlaceSteps.{one_more_side, range_there}
use Rattle.camp_questions.proofs.mark_hunks.sides_at.Goals as goal

pub loop-at-preserved : goal.loop-at-preserved
loop-at-preserved c =
    let version = c.index-versions-at.result in
    let none : Range = record { from = 0; to = 0 } in
    let range : Range = get_or c.args.ranges.now c.loop-at.at none in
    let of = range_there c.args.lines.now c.args.versions.now c.args.ranges.now c.loop-at.at range none version c.requires (omega arith) refl c.index-versions-at.is in
    one_more_side c.args.lines.now c.args.place c.args.versions.now c.loop-at.at version version range c.loop-at.sides.items c.push_within.new.sides.items (omega arith) c.index-versions-at.is c.loop-at.invariant of c.in_ok-push_within.ensures
