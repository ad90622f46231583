use Rattle.camp_notation.proofs.catch_readings.read_catches.Goals as goal

pub returns : goal.returns
returns c = record { text = rw c.deref.ensures.value at (c.in_ok-expect_written.ensures _ c.catches_text.ensures.exact) }
