use Rattle.camp_ctx.proofs.Words.{refl}
use Rattle.camp_ctx.proofs.AnyOrder.{conflict_as_they_stand, merge_as_they_stand}
use Rattle.camp_ctx.proofs.fast.conflicts.conflict_in_any_order.Goals as goal
use Rattle.camp_ctx.proofs.fast.conflicts.conflict_in_any_order.Goals.{in-None, in-Some}

pub returns : goal.returns
returns c =
    let x = c.args.x.now in
    let y = c.args.y.now in
    let lacks = c.can_merge_unordered.ensures.labels c.if-not-can_merge_unordered.false in
    let any = c.can_merge_unordered.ensures.orders c.if-not-can_merge_unordered.false in
    elim c.match-branch-2.branch [
      | in-None w ↦
          let never = rw (w.in-None.is, c.requires.first, c.requires.second) at c.in_ok-clean_merge.ensures.exact in
          rw w.result-is (λ yes. conflict_as_they_stand x y lacks any (λ t' s'. never (t', s')), λ conflict. refl)
      | in-Some w ↦
          let merge = rw (w.in-Some.is, c.requires.first, c.requires.second) at c.in_ok-clean_merge.ensures.exact in
          rw w.result-is (λ yes t' s' merges. cc, λ conflict. absurd (merge_as_they_stand x y lacks any _ _ merge conflict))
    ]
