use Rattle.camp_seq.proofs.RoomToMerge.{shape_told}
use Rattle.camp_seq.proofs.rooms.shape_with.Goals as goal

pub returns : goal.returns
returns c =
    shape_told c.args.items.now c.args.last.now c.line_of.result c.sides_of.result c.line_of.ensures.in_range c.line_of.ensures.value c.sides_of.ensures c.shape_from.result c.shape_from.ensures
