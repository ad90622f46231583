use Rattle.camp_questions.proofs.Words.{◌∙◌, ap, arith, true, set, take_all, marked_in_both}
use Rattle.camp_questions.proofs.MarkedNames.{none_joins, none_yet, one_joins}
use Rattle.camp_questions.proofs.fast.reaching.mark_all.Goals.{else-more-at, then-more-at}
use Rattle.camp_questions.proofs.fast.reaching.mark_all.Goals as goal

pub loop-at-init : goal.loop-at-init
loop-at-init c = none_yet c.args.marks.now c.args.more.now

pub loop-at-preserved : goal.loop-at-preserved
loop-at-preserved c =
    let i = c.loop-at.at in
    elim c.if-more-at.branch [
      | then-more-at w ↦ w.marks-is ∙ ap (λ l. set l i true) c.loop-at.invariant ∙ one_joins c.args.marks.now c.args.more.now i c.requires (omega arith) w.if-more-at.true
      | else-more-at w ↦ w.marks-is ∙ c.loop-at.invariant ∙ none_joins c.args.marks.now c.args.more.now i c.requires (omega arith) w.if-more-at.false
    ]

pub returns : goal.returns
returns c =
    c.loop-at.invariant ∙ ap (marked_in_both c.args.marks.now) (take_all c.loop-at.at c.args.more.now (omega arith))
