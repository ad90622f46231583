use Rattle.camp_clients.proofs.Words.{IfOk-weaker, subst, begun, lists_of, history_of}
use Rattle.camp_clients.specs.Runs.{IsShared}
use Rattle.camp_clients.proofs.heads.shared.Goals as goal

pub returns : goal.returns
returns g c = record {
  shared = IfOk-weaker c.shared_from.result _ _ (λ run shared.
      subst (λ (first : g.row.State.Denot). IsShared (begun g.State.Object.object first) c.args.plan.now.tries (lists_of c.args.plan.now.sections.now) (lists_of run.answers.items) (history_of run.opener))
      c.in_ok-initial.ensures.exact shared) c.shared_from.ensures.shared;
}
