use Rattle.camp_clients.proofs.Words.{IfOk-weaker, subst, sym}
use Rattle.camp_object.specs.Objects.{IsFirst}
use Rattle.camp_object.proofs.Replays.{initial_first}
use Rattle.camp_clients.proofs.first_states.initial.Goals as goal

pub returns-clause-first : goal.returns-clause-first
returns-clause-first g c =
    IfOk-weaker c.initial.result _ _ (λ state is. subst (IsFirst g.State.Object.object) (sym is) (initial_first g.State.Object.object g.met.State.Object.lawful)) c.initial.ensures
