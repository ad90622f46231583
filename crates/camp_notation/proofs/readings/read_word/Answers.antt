use Rattle.camp_notation.proofs.readings.read_word.Goals as goal

pub returns : goal.returns
returns c = record { text = rw c.deref.ensures.value at (c.in_ok-expect_written.ensures _ c.word_text.ensures.exact) }
