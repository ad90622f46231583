use Rattle.camp_questions.proofs.Words.{List, map, refl, slice_cmp, nat_cmp, map_of, Catch, name_of, names_in, CanMoveToFront, AreBlockedBy}
use Rattle.camp_questions.proofs.BranchGrowths.{to_front}
use Rattle.camp_questions.proofs.Growing.{all_grown, fewer_to_come, one_grown}
use Rattle.camp_questions.proofs.dependencies.grow_by_blockers.Goals.{In-Err-Blocked}
use Rattle.camp_questions.proofs.dependencies.grow_by_blockers.Goals as goal

pub returns-in-Ok : goal.returns-in-Ok
returns-in-Ok c =
    let branch : List Catch = c.args.list.now in
    let grown = names_in c.loop-grown.grown in
    let done : CanMoveToFront branch grown = (c.in-Ok.field-0.first.items, c.in-Ok.field-0.rest.items, c.in-Ok.ensures.exact) in
    all_grown (map name_of branch) (CanMoveToFront branch) (AreBlockedBy branch) (to_front branch) (names_in c.args.names) grown c.loop-grown.invariant done

-- what blocks the names
stops : (c : In-Err-Blocked) → AreBlockedBy c.args.list.now (names_in c.loop-grown.grown) c.in-Err-Blocked.stuck.on.name
stops c =
    let stuck = rw c.in-Err-Blocked.field-0-is at c.in-Err-Blocked.ensures.exact in
    (c.in-Err-Blocked.stuck.patch, c.in-Err-Blocked.stuck.on, stuck, refl)

pub loop-grown-smaller : goal.loop-grown-smaller
loop-grown-smaller c =
    let branch : List Catch = c.args.list.now in
    fewer_to_come (map name_of branch) (CanMoveToFront branch) (AreBlockedBy branch) (to_front branch) (map_of (slice_cmp nat_cmp) c.loop-grown.grown) (map_of (slice_cmp nat_cmp) c.in_ok-grown-in-Err-Blocked.grown) _ (stops (goal.at.loop-grown-smaller c).In-Err-Blocked) c.in_ok-grown-in-Err-Blocked.ensures.exact

pub loop-grown-preserved : goal.loop-grown-preserved
loop-grown-preserved c =
    let branch : List Catch = c.args.list.now in
    one_grown (map name_of branch) (CanMoveToFront branch) (AreBlockedBy branch) (to_front branch) (names_in c.args.names) (map_of (slice_cmp nat_cmp) c.loop-grown.grown) (map_of (slice_cmp nat_cmp) c.in_ok-grown-in-Err-Blocked.grown) _ c.loop-grown.invariant (stops (goal.at.loop-grown-preserved c).In-Err-Blocked) c.in_ok-grown-in-Err-Blocked.ensures.exact
