use Rattle.camp_talk.proofs.Words.{◌≡◌, ◌++◌, zip_first, zip_second, flat_map, zip, annotated_line}
use Rattle.camp_talk.proofs.file_answers.annotated_lines.Given as goal

abbrev pub invariant-loop-line : goal.invariant-loop-line
invariant-loop-line l =
    l.text.items ++ flat_map annotated_line (zip (zip_first l.line-iterator) (zip_second l.line-iterator))
    ≡ flat_map annotated_line (zip l.lines l.names)
