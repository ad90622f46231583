use Rattle.camp_talk.proofs.Words.{◌≡◌, ◌∙◌, arith, length, rules, subst, take}
use Rattle.camp_talk.proofs.LineCounts.{view_unanswered}
use Rattle.camp_talk.proofs.ViewLemmas.{taken_back, view_answered}
use Rattle.camp_talk.proofs.views.answer_view.Goals as goal

pub returns-in-Ok-false-clause-answers : goal.returns-in-Ok-false-clause-answers
returns-in-Ok-false-clause-answers c =
    let sees = rw c.in-Ok-false.field-0-test at c.in-Ok-false.ensures.sees in
    view_answered c.args.state.now c.args.request.now _ _ c.args.answer.now.items _ _ _ _ c.loop-why.invariant sees

pub returns-in-Err-clause-kept : goal.returns-in-Err-clause-kept
returns-in-Err-clause-kept c =
    let old = c.args.answer.now.items in
    let new = c.see.new.answer.items in
    let start : c.len-start.result ≡ length old = search rules in
    let held = c.in-Err.ensures.kept ∙ c.loop-why.invariant.writes in
    subst (λ n. c.truncate.new.self.items ≡ take n new) start c.truncate.ensures.items ∙ taken_back old _ new held

pub returns-in-Err-clause-unanswered : goal.returns-in-Err-clause-unanswered
returns-in-Err-clause-unanswered c =
    view_unanswered c.args.state.now c.args.request.now _ _ c.args.answer.now.items _ _ _ (omega arith) c.loop-why.invariant c.in-Err.ensures.unseen
