use Rattle.camp_questions.proofs.Words.{◌∙◌, ap, filter, filter_same, not, rules}
use Rattle.camp_questions.specs.Foresight.{is_pair_among}
use Rattle.camp_questions.proofs.open_changes.without.Goals as goal

pub returns : goal.returns
returns c =
    let stay = filter_same _ (λ pair. not (is_pair_among c.args.others.now pair)) _ (λ x b f' k. search rules) _ _ c.retain.ensures.filtered in
    c.new.ensures.exact ∙ stay ∙ ap (filter (λ pair. not (is_pair_among c.args.others.now pair))) (c.in_ok-left.ensures.items ∙ c.pairs.ensures.exact)
