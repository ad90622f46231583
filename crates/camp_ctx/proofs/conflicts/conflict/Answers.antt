use Rattle.camp_ctx.proofs.Words.{refl}
use Rattle.camp_ctx.proofs.ConflictSteps.{conflicts_from}
use Rattle.camp_ctx.proofs.conflicts.conflict.Goals as goal

pub returns-in-None : goal.returns-in-None
returns-in-None c = record {
  exact =
      let never = rw c.in-None.is at c.in_ok-merge_after_common.ensures.exact in
      (λ yes. conflicts_from _ _ _ _ c.in_ok-first.ensures c.in_ok-second.ensures never, λ conflict. refl);
}
