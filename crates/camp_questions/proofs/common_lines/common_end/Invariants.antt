use Rattle.camp_questions.proofs.Words.{reverse, ◌≡◌, ◌+◌, drop, common_front}
use Rattle.camp_questions.proofs.common_lines.common_end.Given as goal

abbrev pub invariant-loop-at : goal.invariant-loop-at
invariant-loop-at l =
    common_front (reverse l.lines) (reverse l.others)
    ≡ l.at + common_front (drop l.at (reverse l.lines)) (drop l.at (reverse l.others))
