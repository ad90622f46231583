use Rattle.camp_questions.proofs.Words.{◌∙◌, ap, filter, not, has_patch}
use Rattle.camp_questions.proofs.differences.missing_in.Goals as goal

pub returns : goal.returns
returns c =
    c.new.ensures.exact ∙ c.keep_lacked.ensures ∙ ap (filter (λ name. not (has_patch c.args.ours.now name))) c.in_ok-names.ensures.exact
