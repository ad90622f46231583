use Rattle.camp_questions.proofs.Words.{◌++◌, ◌∙◌, ap, is_among, IfOk-weaker}
use Rattle.camp_questions.proofs.pictures.with_neighbours.Goals as goal

pub returns : goal.returns
returns c =
    IfOk-weaker c.set_of.result _ _ (λ set is name. is name ∙ ap (λ l. is_among l name) (c.deref-2.ensures.value ∙ c.in_ok-extend_from_slice.ensures.items ∙ (λ i. c.in_ok-all.ensures i ++ (c.deref.ensures.value ∙ c.in_ok-needing.ensures) i))) c.set_of.ensures.exact
