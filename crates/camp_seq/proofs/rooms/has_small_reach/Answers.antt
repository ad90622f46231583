use Rattle.camp_seq.proofs.Words.{arith}
use borrow.Author.Tests.{leb-true}
use Rattle.camp_seq.proofs.Reaching.{room_within}
use Rattle.camp_seq.proofs.rooms.has_small_reach.Goals as goal

pub returns-in-Some-clause-room : goal.returns-in-Some-clause-room
returns-in-Some-clause-room c holds =
    let found = c.in-Some.ensures in
    room_within c.args.items.now found.ranges (omega (arith, leb-true _ _ holds, found.top, found.all))
