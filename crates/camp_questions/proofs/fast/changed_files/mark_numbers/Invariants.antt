use Rattle.camp_questions.proofs.Words.{take, BecomeMarked}
use Rattle.camp_questions.proofs.fast.changed_files.mark_numbers.Given as goal

abbrev pub invariant-loop-number : goal.invariant-loop-number
invariant-loop-number l = BecomeMarked l.initial.marks (take l.number-index l.numbers) l.marks
