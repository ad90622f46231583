-- The text of notes: lines that a script skips as comments.
use Rattle.std.specs.Prelude.{ℕ, Bool, ◌==◌, List, [], ◌∷◌, ◌++◌, bytes_eq, codes, take, if◌then◌else◌}
use Rattle.std.specs.List.{flat_map, starts_with}
use Rattle.camp_base.specs.Signs.{newline}
use Rattle.camp_notes.specs.declared.notes.Note.{Note}

-- a byte of a text: each line feed is followed by the sign of the next line
abbrev pub signed_byte : ℕ → List ℕ
signed_byte byte = if byte == newline then newline ∷ codes "#+" else byte ∷ []

-- the bytes of a text, with the sign of each line but the first
abbrev pub signed_bytes : List ℕ → List ℕ
signed_bytes text = flat_map signed_byte text

-- the lines of a text, each after `#+`; the text has one more line than it has line feeds
abbrev pub signed_lines : List ℕ → List ℕ
signed_lines text = codes "#+" ++ signed_bytes text ++ newline ∷ []

-- the header line of a note
abbrev pub title_line : List ℕ → List ℕ
title_line name = codes "#note " ++ name ++ newline ∷ []

-- the text of a note
abbrev pub note_text : Note → List ℕ
note_text note = title_line note.name ++ signed_lines note.text

-- the text of notes, one after the other
abbrev pub notes_text : List Note → List ℕ
notes_text notes = flat_map note_text notes

-- whether bytes begin with the header line of a note
abbrev pub begins_title : List ℕ → Bool
begins_title bytes = bytes_eq (take 6 bytes) (codes "#note ")

-- whether bytes begin with a line of the text of a note
abbrev pub begins_text_line : List ℕ → Bool
begins_text_line bytes = bytes_eq (take 2 bytes) (codes "#+")

-- whether bytes begin with a line that a script skips as a comment
abbrev pub begins_comment : List ℕ → Bool
begins_comment bytes = starts_with (λ a b. a == b) bytes (codes "#")
