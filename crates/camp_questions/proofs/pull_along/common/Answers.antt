use Rattle.camp_questions.proofs.Words.{rules, ◌∙◌, ap, filter, filter_same, ℕ, Bool, List, has_patch, is_among, IfOk-weaker}
use Rattle.camp_questions.proofs.pull_along.common.Goals as goal

pub returns : goal.returns
returns c =
    let test : List ℕ → Bool = has_patch c.args.to.now in
    let kept = filter_same _ test _ (λ x b f' k. search rules) _ _ c.retain.ensures.filtered in
    IfOk-weaker c.set_of.result _ _ (λ set is name. is name ∙ ap (λ l. is_among l name) (c.deref.ensures.value ∙ kept ∙ ap (filter test) c.in_ok-names.ensures.exact)) c.set_of.ensures.exact
