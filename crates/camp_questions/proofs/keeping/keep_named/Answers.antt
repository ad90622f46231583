use Rattle.camp_questions.proofs.Words.{rules, filter_same, has_name}
use Rattle.camp_questions.proofs.keeping.keep_named.Goals as goal

pub returns : goal.returns
returns c =
    filter_same _ (has_name c.args.set.now) _ (λ x b f' k. search rules) _ _ c.retain.ensures.filtered
