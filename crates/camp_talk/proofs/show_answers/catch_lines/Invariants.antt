use Rattle.camp_talk.proofs.Words.{◌≡◌, take, flat_map, catch_line}
use Rattle.camp_talk.proofs.show_answers.catch_lines.Given as goal

abbrev pub invariant-loop-catch : goal.invariant-loop-catch
invariant-loop-catch l = l.text.items ≡ flat_map catch_line (take l.catch-index l.catches)
