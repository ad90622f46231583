use Rattle.camp_questions.proofs.Words.{[], ◌∷◌, ◌≡◌, List, Named, Ok, Err, ap, changes_in, refl, subst, IfOk-weaker, IsFound, IsSideIn}
use Rattle.camp_questions.proofs.Answering.{no_refusal, wanted_with}
use Rattle.camp_questions.proofs.sides.side.Goals as goal

pub returns : goal.returns
returns c =
    let name = c.args.name.now in
    let found = subst (λ names. IsFound c.args.state.now c.args.branch.now names c.in_ok-branch.branch.now) c.from_ref.ensures.value c.in_ok-branch.ensures in
    record { exact = wanted_with c.args.state.now c.args.branch.now (name ∷ []) found (λ b answer. (side : List Named) × (answer ≡ Ok (changes_in side)) × IsSideIn b name side) c.side_in_branch.result c.answer_or_memory.result c.answer_or_memory.ensures (IfOk-weaker c.side_in_branch.result _ _ (λ changes w. (w.0, ap Ok w.1, w.2)) c.side_in_branch.ensures) (λ refusal w. no_refusal refusal (changes_in w.0) (Err refusal) refl w.1) }
