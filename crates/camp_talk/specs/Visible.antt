-- Bytes as printable characters, so that no control byte reaches a terminal.
use Rattle.std.specs.Prelude.{◌≡◌, ℕ, ◌/◌, ◌%◌, ◌<◌, ◌==◌, ◌||◌, Bool, true, List, [], ◌∷◌, ◌++◌, codes, if◌then◌else◌}
use Rattle.std.specs.List.{All, flat_map, list_all}
use Rattle.camp_base.specs.Signs.{backslash, is_printing, newline}
use Rattle.camp_notation.specs.Words.{hex_digit}

-- a byte in printable characters: `\` as `\\`, a byte that is not printable as `\x` and two digits, any other unchanged
abbrev pub visible_byte : ℕ → List ℕ
visible_byte byte =
    if byte == backslash then backslash ∷ byte ∷ []
    else if is_printing byte then byte ∷ []
    else codes "\\x" ++ hex_digit (byte / 16) ∷ hex_digit (byte % 16) ∷ []

-- bytes in printable characters
abbrev pub visible : List ℕ → List ℕ
visible bytes = flat_map visible_byte bytes

-- a byte is printable, or a line feed
abbrev pub is_text_byte : ℕ → Bool
is_text_byte byte = byte == newline || is_printing byte

-- each byte is
abbrev pub IsPlainText : List ℕ → Type 0
IsPlainText bytes = list_all is_text_byte bytes ≡ true

-- whatever the bytes are, they are rendered as printable characters
abbrev pub ShownBytesArePrintable : Type 0
ShownBytesArePrintable = (bytes : List ℕ) → All (λ byte. byte < 256) bytes → list_all is_printing (visible bytes) ≡ true
