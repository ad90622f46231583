-- Paths in quotes, in the form of strings of C.
use Rattle.std.specs.Prelude.{◌≡◌, ℕ, ◌+◌, ◌-◌, ◌*◌, ◌/◌, ◌%◌, Bool, not, ◌&&◌, ◌==◌, if◌then◌else◌, List, [], ◌∷◌, ◌++◌, length, Option, None, Some, option_map}
use Rattle.std.specs.List.{flat_map}
use Rattle.camp_base.specs.Signs.{backslash, is_between, is_printing, quote}
use Rattle.camp_coding.specs.GitPaths.{AreBytes}
use Rattle.camp_stream.specs.declared.unquoting.EscapeState.{EscapeState}
use Rattle.camp_stream.specs.declared.unquoting.EscapeState.TheVariants.{Plain, Backslash, OneDigit, TwoDigits}

-- a byte stands for itself between quotes
abbrev pub needs_no_escape : ℕ → Bool
needs_no_escape byte = is_printing byte && (not (byte == quote) && not (byte == backslash))

-- a byte between quotes: itself, or a backslash and three octal digits
abbrev pub quoted_path_byte : ℕ → List ℕ
quoted_path_byte byte =
    if needs_no_escape byte then byte ∷ []
    else backslash ∷ (48 + byte / 64) ∷ (48 + byte / 8 % 8) ∷ (48 + byte % 8) ∷ []

-- a path in quotes
abbrev pub quoted_path : List ℕ → List ℕ
quoted_path path = quote ∷ flat_map quoted_path_byte path ++ quote ∷ []

-- the byte that a backslash and this letter represent
abbrev pub letter_value : ℕ → Option ℕ
letter_value letter =
    if letter == 97 then Some 7
    else (if letter == 98 then Some 8
    else (if letter == 102 then Some 12
    else (if letter == 110 then Some 10
    else (if letter == 114 then Some 13
    else (if letter == 116 then Some 9
    else (if letter == 118 then Some 11
    else (if letter == quote then Some quote
    else (if letter == backslash then Some backslash else None))))))))

-- one more byte before a path that was read, if one was
abbrev pub onto_path : ℕ → Option (List ℕ × List ℕ) → Option (List ℕ × List ℕ)
onto_path byte found = option_map (λ read. (byte ∷ read.0, read.1)) found

-- `onto_path`, given an optional byte; none if there is no byte
abbrev pub onto_path_if : Option ℕ → Option (List ℕ × List ℕ) → Option (List ℕ × List ℕ)
onto_path_if None found = None
onto_path_if (Some byte) found = onto_path byte found

-- the value of octal digits with one more
abbrev pub octal_more : ℕ → ℕ → ℕ
octal_more value digit = 8 * value + (digit - 48)

-- the path before the closing quote and the rest after that quote, given the state of the escape that is being read
abbrev pub unquoted_from : EscapeState → List ℕ → Option (List ℕ × List ℕ)
unquoted_from state [] = None
unquoted_from Plain (byte ∷ bytes) =
    if byte == quote then Some ([], bytes)
    else (if byte == backslash then unquoted_from Backslash bytes else onto_path byte (unquoted_from Plain bytes))
unquoted_from Backslash (byte ∷ bytes) =
    if is_between 48 51 byte then unquoted_from (OneDigit (byte - 48)) bytes
    else onto_path_if (letter_value byte) (unquoted_from Plain bytes)
unquoted_from (OneDigit value) (byte ∷ bytes) =
    if is_between 48 55 byte then unquoted_from (TwoDigits (octal_more value byte)) bytes else None
unquoted_from (TwoDigits value) (byte ∷ bytes) =
    if is_between 48 55 byte then onto_path (octal_more value byte) (unquoted_from Plain bytes) else None

-- reading a quoted path gives that path, and leaves all bytes after it
abbrev pub QuotedPathsComeBack : Type 0
QuotedPathsComeBack =
    (path rest : List ℕ) → AreBytes path
    → unquoted_from Plain (flat_map quoted_path_byte path ++ quote ∷ rest) ≡ Some (path, rest)

-- a path that was read, if nothing is left after it
abbrev pub ended_path : Option (List ℕ × List ℕ) → Option (List ℕ)
ended_path None = None
ended_path (Some read) = if length read.1 == 0 then Some read.0 else None

-- the path that a text represents: in quotes, which must end the text, or unquoted
abbrev pub path_of_text : List ℕ → Option (List ℕ)
path_of_text [] = Some []
path_of_text (byte ∷ bytes) = if byte == quote then ended_path (unquoted_from Plain bytes) else Some (byte ∷ bytes)
