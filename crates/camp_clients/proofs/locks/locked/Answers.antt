use Rattle.camp_clients.proofs.Words.{IfOk-weaker, begun, lists_of, subst}
use Rattle.camp_clients.specs.Runs.{IsLocked}
use Rattle.camp_clients.proofs.locks.locked.Goals as goal

pub returns : goal.returns
returns g c = record {
  locked = IfOk-weaker c.locked_from.result _ _ (λ run locked.
      subst (λ (first : g.row.State.Denot). IsLocked (begun g.State.Object.object first) (lists_of c.args.sections.now) (lists_of run.answers.items) run.book.calls)
      c.in_ok-first.ensures.exact locked) c.locked_from.ensures.locked;
}
