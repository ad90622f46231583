use Rattle.camp_seq.proofs.Words.{◌+◌, ◌≤◌, ◌^◌, subst, sym}
use borrow.Author.Tests.{le-leb, leb-true}
use Rattle.camp_seq.proofs.RoomToMerge.{room_to_merge, both_reach, first_too_far, second_too_far}
use Rattle.camp_seq.proofs.rooms.has_room_to_merge.Goals as goal

pub returns-in-Some-Some-clause-exact : goal.returns-in-Some-Some-clause-exact
returns-in-Some-Some-clause-exact c =
    let found = c.in-Some-Some in
    let reach = both_reach _ _ found.one.0 found.other.0 found.one.1 found.other.1 found.ensures found.ensures' in
    rw (sym reach, c.max.ensures) (leb-true _ _, le-leb _ _)

pub returns-in-Some-Some-clause-room : goal.returns-in-Some-Some-clause-room
returns-in-Some-Some-clause-room c holds =
    let found = c.in-Some-Some in
    room_to_merge _ _ found.one.0 found.other.0 found.one.1 found.other.1 found.ensures found.ensures' (subst (λ m. m + found.one.1 + found.other.1 ≤ 2 ^ 30) c.max.ensures (leb-true _ _ holds))

pub returns-in_default-clause-exact : goal.returns-in_default-clause-exact
returns-in_default-clause-exact c = (λ never. absurd (cc never), λ le. absurd (second_too_far _ _ c.in_default.ensures' le))

pub returns-in_default-2-clause-exact : goal.returns-in_default-2-clause-exact
returns-in_default-2-clause-exact c = (λ never. absurd (cc never), λ le. absurd (first_too_far _ _ (rw c.in_default.is-0 at c.shape_with.ensures) le))
