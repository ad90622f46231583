use Rattle.camp_share.proofs.Words.{◌++◌, ap, ◌∙◌, append-nil, slice_range}
use Rattle.camp_share.proofs.PartLemmas.{joined_at_end}
use Rattle.camp_share.proofs.lists.SharedList.copied.Goals as goal

pub returns : goal.returns
returns g c = record {
  exact =
      ap (λ xs. c.in_ok-front.front ++ xs) c.empty.ensures ∙ append-nil c.in_ok-front.front
      ∙ c.in_ok-front.ensures ∙ c.in_ok-copied.ensures.exact
      ∙ ap (λ xs. slice_range xs c.args.from c.args.to)
      (c.in_ok-whole.ensures ∙ joined_at_end c.self.inside.front c.items.result.now c.len-border.result c.len-border.ensures ∙ ap (λ xs. c.self.inside.front ++ xs) c.items.ensures ∙ c.self.view_is);
}
