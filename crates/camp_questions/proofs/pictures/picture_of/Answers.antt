use Rattle.camp_questions.proofs.Words.{◌≡◌, ℕ, List, Ok, Err, ap, refl, graph_part, whole_picture, IfOk-weaker, Drawn, IsGraph, AreUnresolvedIn}
use Rattle.camp_questions.proofs.Answering.{no_refusal, wanted_with}
use Rattle.camp_questions.proofs.pictures.picture_of.Goals as goal

pub returns : goal.returns
returns c =
    let names : List (List ℕ) = c.args.names.now in
    record { exact = wanted_with c.args.state.now c.args.branch.now names c.in_ok-branch.ensures (λ b answer. (graph : Drawn) × (pairs : List (List ℕ × List ℕ)) × (answer ≡ Ok (graph_part names (whole_picture graph pairs))) × IsGraph b graph × AreUnresolvedIn b pairs) c.picture_in.result c.answer_or_memory.result c.answer_or_memory.ensures (IfOk-weaker c.picture_in.result _ _ (λ picture w. (w.0, w.1, ap Ok w.2, w.3, w.4)) c.picture_in.ensures) (λ refusal w. no_refusal refusal (graph_part names (whole_picture w.0 w.1)) (Err refusal) refl w.2) }
