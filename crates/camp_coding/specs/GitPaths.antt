-- Paths of git as paths of camp.
use Rattle.std.specs.Prelude.{◌≡◌, ℕ, ◌<◌, Bool, not, ◌&&◌, ◌==◌, List, [], ◌∷◌, All, if◌then◌else◌}
use Rattle.std.specs.List.{flat_map}
use Rattle.camp_base.specs.Signs.{is_graphic}
use Rattle.percent_encoding.specs.Percent.{percent_encode_byte, percent_sign}

-- a byte represents itself: a printable character of ASCII other than `%`
abbrev pub is_unescaped : ℕ → Bool
is_unescaped byte = is_graphic byte && not (byte == percent_sign)

-- a byte in an escaped path: itself, or `%` and two upper-case hexadecimal digits
abbrev pub escaped_path_byte : ℕ → List ℕ
escaped_path_byte byte = if is_unescaped byte then byte ∷ [] else percent_encode_byte byte

-- a path of git as a path of camp
abbrev pub escaped_path : List ℕ → List ℕ
escaped_path path = flat_map escaped_path_byte path

-- all numbers are bytes
abbrev pub AreBytes : List ℕ → Type 0
AreBytes bytes = All (λ byte. byte < 256) bytes

-- two paths of git are equal if their escaped paths are
abbrev pub EscapedPathsDiffer : Type 0
EscapedPathsDiffer =
    (path other : List ℕ) → AreBytes path → AreBytes other → escaped_path path ≡ escaped_path other → path ≡ other
