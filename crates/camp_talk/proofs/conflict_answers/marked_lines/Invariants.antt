use Rattle.camp_talk.proofs.Words.{◌≡◌, take, flat_map}
use Rattle.camp_talk.specs.QuestionAnswers.{conflict_hunk_text}
use Rattle.camp_talk.proofs.conflict_answers.marked_lines.Given as goal

abbrev pub invariant-loop-place : goal.invariant-loop-place
invariant-loop-place l = l.text.items ≡ flat_map conflict_hunk_text (take l.place-index l.file.places)
