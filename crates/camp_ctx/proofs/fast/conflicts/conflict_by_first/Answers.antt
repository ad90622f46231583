use Rattle.camp_ctx.proofs.Words.{whole}
use Rattle.camp_ctx.proofs.AnyOrder.{conflict_as_they_stand}
use Rattle.camp_ctx.proofs.Standing.{firsts_stop}
use Rattle.camp_ctx.proofs.fast.conflicts.conflict_by_first.Goals as goal

pub returns : goal.returns
returns c = λ yes.
    let stops = rw (c.from_ref-first.ensures.value, c.from_ref-second.ensures.value) at (c.in_ok-firsts_do_not_merge.ensures c.if-not-branch.false) in
    conflict_as_they_stand c.args.x.now c.args.y.now (c.can_merge_unordered.ensures.labels yes) (c.can_merge_unordered.ensures.orders yes)
    (firsts_stop (whole c.args.x.now) (whole c.args.y.now) _ _ _ _ c.first_of.ensures.1 c.first_of-2.ensures.1 stops)
