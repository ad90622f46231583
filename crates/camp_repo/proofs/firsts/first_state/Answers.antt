use Rattle.std.proofs.Common.{refl, subst, sym}
use Rattle.std.proofs.lemmas.Result.{IfOk-weaker}
use Rattle.camp_object.specs.Objects.{IsFirst}
use Rattle.camp_repo.specs.Objects.{repository}
use Rattle.camp_repo.proofs.firsts.first_state.Goals as goal

pub returns-clause-first : goal.returns-clause-first
returns-clause-first c =
    IfOk-weaker c.with_limits.result _ _ (λ state is. subst (IsFirst repository) (sym is) (record { none_yet = refl; itself = refl })) c.with_limits.ensures.exact
