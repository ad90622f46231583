use Rattle.camp_seq.proofs.RoomToMerge.{goes_on_to}
use Rattle.camp_seq.proofs.rooms.shape_from.Goals as goal

pub returns : goal.returns
returns c =
    let found = c.loop-p.invariant in
    goes_on_to c.args.items.now c.args.line c.args.more c.loop-p.greatest c.loop-p.sides c.loop-p.p-index c.loop-p-test.false found.ranges found.line found.sides found.line_small found.small
