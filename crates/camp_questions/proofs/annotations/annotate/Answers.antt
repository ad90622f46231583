use Rattle.camp_questions.proofs.Words.{◌∙◌, ap, get, refl, sym, subst, IfOk-weaker, Annotates, LeadsTo, annotated, names_of_lines}
use Rattle.camp_questions.proofs.Answering.{such_told}
use Rattle.camp_questions.proofs.annotations.annotate.Goals as goal

pub with_names-requires : goal.with_names-requires
with_names-requires c =
    subst (λ l. LeadsTo l c.tree.result.now) (sym c.catches.ensures.value) c.tree.ensures.exact

pub returns : goal.returns
returns c =
    let path = c.args.path.now in
    let tree = c.tree.result.now in
    let branch = c.in_ok-branch.branch.now in
    record { exact = such_told c.args.state.now c.args.branch.now c.in_ok-branch.ensures (λ b. Annotates b path) c.with_names.result c.answer_or_memory.result c.answer_or_memory.ensures (IfOk-weaker c.with_names.result _ _ (λ told is. (tree, c.tree.ensures.exact, is ∙ ap (λ l. annotated (get tree path) (names_of_lines path l)) c.catches.ensures.value)) c.with_names.ensures) (annotated (get tree path) (names_of_lines path branch)) (tree, c.tree.ensures.exact, refl) }
