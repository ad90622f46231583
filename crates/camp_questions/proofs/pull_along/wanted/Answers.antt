use Rattle.camp_questions.proofs.Words.{◌∙◌, ap, filter, not, has_patch, is_among, IfOk-weaker}
use Rattle.camp_questions.proofs.pull_along.wanted.Goals as goal

pub returns : goal.returns
returns c =
    IfOk-weaker c.set_of.result _ _ (λ set is name. is name ∙ ap (λ l. is_among l name) (c.deref.ensures.value ∙ c.keep_lacked.ensures ∙ ap (filter (λ n. not (has_patch c.args.to.now n))) c.in_ok-wanted.ensures.items)) c.set_of.ensures.exact
