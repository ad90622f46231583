use Rattle.camp_questions.proofs.Words.{[], ◌∙◌, ◌∷◌, ◌≡◌, Ok, ap, patch_in, refl, subst, IfOk-weaker, IsFound}
use Rattle.camp_questions.proofs.Answering.{told_with}
use Rattle.camp_questions.proofs.showing.show.Goals as goal

pub returns : goal.returns
returns c =
    let name = c.args.name.now in
    let branch = c.in_ok-branch.branch.now in
    let found = subst (λ names. IsFound c.args.state.now c.args.branch.now names branch) c.from_ref.ensures.value c.in_ok-branch.ensures in
    record { exact = told_with c.args.state.now c.args.branch.now (name ∷ []) found (λ b answer. answer ≡ Ok (patch_in b name)) c.patch_in.result c.answer_or_memory.result c.answer_or_memory.ensures (IfOk-weaker c.patch_in.result _ _ (λ shown is. ap Ok is ∙ ap (λ l. Ok (patch_in l name)) c.catches.ensures.value) c.patch_in.ensures) (patch_in branch name) refl }
