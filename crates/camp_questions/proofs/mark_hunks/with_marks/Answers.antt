use Rattle.camp_questions.proofs.Words.{[], ◌∙◌, ap, fold, file_from, with_range, IfOk-weaker}
use Rattle.camp_questions.proofs.mark_hunks.with_marks.Goals as goal

pub file_with-requires : goal.file_with-requires
file_with-requires c = c.deref-2.ensures.value ∙ c.in_ok-ranges.ensures

pub returns : goal.returns
returns c =
    let found = c.deref-3.ensures.value ∙ c.in_ok-found.ensures ∙ ap (fold with_range []) (c.deref.ensures.value ∙ c.in_ok-ranges.ensures) in
    IfOk-weaker c.file_with.result _ _ (λ file is. is ∙ ap (file_from c.args.lines.now c.args.versions.now 0) found) c.file_with.ensures
