use Rattle.camp_questions.proofs.Words.{refl, sym, ◌∙◌, ap, subst, MarksAt, with_marks}
use Rattle.camp_questions.specs.declared.marking.Marked.TheVariants as marked
use Rattle.camp_questions.proofs.marking.marks_at.Goals as goal

pub returns-in_default : goal.returns-in_default
returns-in_default c =
    subst (λ o. MarksAt c.args.branch.now c.args.tree.now c.args.path.now o marked.NoFile) (sym c.in_default.ensures.exact) refl

pub returns : goal.returns
returns c =
    let of = c.in_ok-versions.ensures in
    let file = c.in_ok-file.ensures ∙ ap (with_marks c.in-Some.lines.now) c.deref.ensures.value in
    subst (λ o. MarksAt c.args.branch.now c.args.tree.now c.args.path.now o (marked.File c.in_ok-file.file)) (sym c.in-Some.ensures.exact) (c.in_ok-file.file, (of.0, of.1, c.in_ok-versions.versions.items, of.2, of.3, of.4, file), refl)
