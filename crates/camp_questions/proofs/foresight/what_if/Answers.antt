use Rattle.camp_questions.proofs.Words.{◌∙◌, inr, subst, sym, Ok, Err, IfOk-weaker}
use Rattle.std.specs.Prelude.{IfErr}
use Rattle.camp_questions.specs.Foresight.{ForeseesOf, MayWantForesight}
use Rattle.camp_questions.proofs.foresight.what_if.Goals as goal

pub returns-in-Next : goal.returns-in-Next
returns-in-Next c =
    let leads = sym c.in-Next.is ∙ c.in_ok-reply.ensures.exact in
    record {
      exact = IfOk-weaker c.written.result _ _ (λ seen. subst (λ decision. ForeseesOf c.args.state.now c.args.call.now decision seen) leads) c.written.ensures;
      memory = elim c.written.result as (λ made. IfErr made (λ error. MayWantForesight c.args.state.now c.args.call.now)) [ Ok seen ↦ tt | Err error ↦ inr (c.in-Next.next, sym leads) ];
    }
