-- The limit of notes.
use Rattle.std.specs.Prelude.{ℕ}

-- the most bytes of a note
abbrev pub longest_note : ℕ
longest_note = 65_536
