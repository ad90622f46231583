use Rattle.camp_questions.proofs.Words.{rules, filter_same, has_patch, not, Bool, List, ℕ}
use Rattle.camp_questions.proofs.keeping.keep_lacked.Goals as goal

pub returns : goal.returns
returns c =
    let test : List ℕ → Bool = λ name. not (has_patch c.args.branch.now name) in
    filter_same _ test _ (λ x b f' k. search rules) _ _ c.retain.ensures.filtered
