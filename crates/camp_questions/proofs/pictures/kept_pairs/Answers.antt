use Rattle.camp_questions.proofs.Words.{Bool, List, ℕ, ◌&&◌, ◌∙◌, ap, filter, filter_same, rules, has_name}
use Rattle.camp_questions.proofs.pictures.kept_pairs.Goals as goal

pub returns : goal.returns
returns c =
    let kept : (List ℕ × List ℕ) → Bool = λ pair. has_name c.args.kept.now pair.0 && has_name c.args.kept.now pair.1 in
    let stay = filter_same _ kept _ (λ x b f' k. search rules) _ _ c.retain.ensures.filtered in
    c.new.ensures.exact ∙ stay ∙ ap (filter kept) (c.in_ok-pairs.ensures.items ∙ c.pairs.ensures.exact)
