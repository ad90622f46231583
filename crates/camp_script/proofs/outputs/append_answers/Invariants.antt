use Rattle.camp_script.proofs.Common.{◌≡◌, ◌++◌, take, answers_text}
use Rattle.camp_script.proofs.outputs.append_answers.Given as goal

abbrev pub invariant-loop-answer : goal.invariant-loop-answer
invariant-loop-answer l = l.text.items ≡ l.initial.text.items ++ answers_text (take l.answer-index l.answers)
