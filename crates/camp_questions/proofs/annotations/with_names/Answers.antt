use Rattle.camp_questions.proofs.Words.{◌∙◌, sym, ap, annotated, names_of_lines}
use Rattle.camp_questions.specs.declared.annotations.Annotated.TheVariants.{File}
use Rattle.camp_questions.proofs.annotations.with_names.Goals as goal

pub returns-in_default : goal.returns-in_default
returns-in_default c =
    sym (ap (λ o. annotated o (names_of_lines c.args.path.now c.args.catches.now)) c.in_default.ensures.exact)

pub returns : goal.returns
returns c =
    (λ i. File (c.in_ok-lines.ensures i) (c.in_ok-names.ensures i)) ∙ sym (ap (λ o. annotated o (names_of_lines c.args.path.now c.args.catches.now)) c.in-Some.ensures.exact)
