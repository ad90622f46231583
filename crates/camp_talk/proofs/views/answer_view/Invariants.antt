use Rattle.camp_talk.proofs.Words.{◌-◌, ◌^◌}
use Rattle.camp_talk.specs.Inside.Viewing.{HasAnsweredView}
use Rattle.camp_talk.proofs.views.answer_view.Given as goal

abbrev pub invariant-loop-why : goal.invariant-loop-why
invariant-loop-why l = HasAnsweredView l.initial.reader l.reader l.initial.answer.items l.answer.items l.state l.lines

abbrev pub decreases-loop-why : goal.decreases-loop-why
decreases-loop-why l = 2 ^ 64 - l.lines
