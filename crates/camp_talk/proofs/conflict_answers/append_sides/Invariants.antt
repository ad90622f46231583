use Rattle.camp_talk.proofs.Words.{◌≡◌, ◌++◌, take, flat_map}
use Rattle.camp_talk.specs.QuestionAnswers.{side_text}
use Rattle.camp_talk.proofs.conflict_answers.append_sides.Given as goal

abbrev pub invariant-loop-side : goal.invariant-loop-side
invariant-loop-side l = l.text.items ≡ l.initial.text.items ++ flat_map side_text (take l.side-index l.sides)
