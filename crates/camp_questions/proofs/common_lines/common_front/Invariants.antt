use Rattle.camp_questions.proofs.Words.{◌≡◌, ◌+◌, drop, common_front}
use Rattle.camp_questions.proofs.common_lines.common_front.Given as goal

abbrev pub invariant-loop-at : goal.invariant-loop-at
invariant-loop-at l = common_front l.lines l.others ≡ l.at + common_front (drop l.at l.lines) (drop l.at l.others)
