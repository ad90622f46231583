use Rattle.camp_notation.proofs.readings.read_lines.Goals as goal

pub returns : goal.returns
returns c = record { text = rw c.deref.ensures.value at (c.in_ok-expect_written.ensures _ c.lines_text.ensures.exact) }
