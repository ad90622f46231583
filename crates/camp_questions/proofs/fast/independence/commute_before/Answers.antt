use Rattle.camp_questions.proofs.Words.{◌++◌, ◌∙◌, ap, is_among, names_in}
use Rattle.camp_questions.proofs.PartsArranged.{arranged_or_stuck}
use Rattle.camp_questions.proofs.fast.independence.commute_before.Goals as goal

pub returns : goal.returns
returns c =
    let whole = c.deref-2.ensures.value ∙ c.in_ok-append.ensures ∙ (λ i. c.in_ok-list.ensures i ++ c.deref.ensures.value i) in
    arranged_or_stuck c.args.patch.now.name (names_in c.in_ok-named.named) c.args.going.now c.args.patch.now.catches.items c.deref-2.result.now c.arrange.result (λ n. c.in_ok-named.ensures.exact n ∙ ap (λ l. is_among l n) c.from_ref.ensures.value) c.requires whole c.arrange.ensures.exact
