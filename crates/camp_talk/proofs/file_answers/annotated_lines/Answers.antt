use Rattle.camp_talk.proofs.Words.{zip_first, zip_second, flat_map, zip, annotated_line}
use Rattle.camp_talk.proofs.PairLemmas.{all_pairs}
use Rattle.camp_talk.proofs.file_answers.annotated_lines.Goals as goal

pub returns : goal.returns
returns c =
    all_pairs annotated_line (zip_first c.loop-line.line-iterator) (zip_second c.loop-line.line-iterator) c.loop-line.text.items
    (flat_map annotated_line (zip c.args.lines.now c.args.names.now)) c.in-None.ensures.steps c.loop-line.invariant
