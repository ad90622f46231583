use Rattle.camp_seq.proofs.Words.{◌≡◌, List, Err, ◌∙◌, subst, arith, AnswersByTrial, Named, AppliesAll}
use Rattle.std.proofs.lemmas.Result.{err_from_is_err_and}
use Rattle.camp_seq.proofs.ListRuns.{run_stops}
use Rattle.camp_seq.proofs.runs.apply_all.Goals as goal

pub returns-in_err-apply : goal.returns-in_err-apply
returns-in_err-apply c = record {
  exact =
      let s : List Named = c.deref-p-items.result.now in
      let fault = c.in_err-apply.field-0.0 in
      let here : s ≡ c.args.s.now = c.deref-p-items.ensures.value ∙ c.s.view_is in
      let stopped = run_stops s c.loop-p.p-index c.p-item.result c.in_ok-changed.changed c.loop-p.changed c.apply.new.tree fault (omega arith) c.p-item.is c.loop-p.invariant c.in_err-apply.ensures.exact in
      let p = err_from_is_err_and c.from_residual-in_err-apply.result c.from_residual-in_err-apply.ensures.1 in
      rw (p.1, p.2) (subst (λ x. AnswersByTrial (AppliesAll x) c.args.tree.now (Err fault) c.args.tree.now) here (subst (λ x. AnswersByTrial (AppliesAll s) x (Err fault) x) c.in_ok-changed.ensures.exact stopped));
}
