use Rattle.camp_questions.proofs.Words.{rules, Bool, ℕ, arith, not, sym, filter_same, needs_index}
use Rattle.camp_questions.proofs.PlacedNeeds.{ends_before}
use Rattle.camp_questions.proofs.nodes.leave_out.Goals as goal

pub returns-then-marks-index : goal.returns-then-marks-index
returns-then-marks-index c =
    sym (ends_before c.args.marks.now c.args.at c.args.places.now.items c.index.result.now c.index.ensures (omega (arith, c.if-marks-index.true)) c.requires)

pub returns : goal.returns
returns c =
    let test : ℕ → Bool = λ place. not (needs_index c.args.marks.now c.args.at place) in
    filter_same _ test _ (λ x b f' k. search rules) _ _ c.retain.ensures.filtered
