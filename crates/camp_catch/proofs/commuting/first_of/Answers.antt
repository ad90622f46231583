use Rattle.camp_catch.proofs.Words.{[], ap, sym, ◌∙◌, ◌∷◌, IfOk-weaker, Named}
use Rattle.camp_catch.proofs.ValueSteps.{is_alone}
use Rattle.camp_catch.proofs.commuting.first_of.Goals as goal

pub returns : goal.returns
returns c =
    IfOk-weaker c.try_clone.result _ _ (λ copy is. is_alone c.args.list.now c.index-list-0.result c.requires ∙ ap (λ (p : Named). p ∷ []) (sym c.index-list-0.is ∙ sym is)) c.try_clone.ensures.exact
