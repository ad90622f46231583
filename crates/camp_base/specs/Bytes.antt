-- Names, paths and lines as lists of bytes.
use Rattle.std.specs.Prelude.{ℕ, Bool, not, ◌&&◌, ◌||◌, ◌==◌, nat_le, List, [], ◌∷◌, length, slice_index}
use Rattle.std.specs.List.{list_all, slice_split}
use Rattle.std.specs.Cmp.Lexicographic.{pointwise}
use Rattle.camp_base.specs.Limits.{longest_line, longest_name, longest_path}
use Rattle.camp_base.specs.Signs.{newline, hyphen, dot, slash, is_digit, is_graphic, is_small_letter}

-- a byte of a name: `a` to `z`, `0` to `9` or `-`
abbrev pub is_name_byte : ℕ → Bool
is_name_byte byte = is_small_letter byte || (is_digit byte || byte == hyphen)

-- bytes are a name: 1 to 40 bytes of a name, the first not `-`
abbrev pub is_name : List ℕ → Bool
is_name bytes =
    not (length bytes == 0) && (not (slice_index bytes 0 == hyphen)
    && (nat_le (length bytes) longest_name && list_all is_name_byte bytes))

-- bytes are a component of a path: not empty, not `.` and not `..`
abbrev pub is_path_part : List ℕ → Bool
is_path_part part =
    not (length part == 0) && (not (pointwise ◌==◌ part (dot ∷ []))
    && not (pointwise ◌==◌ part (dot ∷ dot ∷ [])))

-- the components of a path: the bytes between `/`
abbrev pub path_parts : List ℕ → List (List ℕ)
path_parts bytes = slice_split (λ byte. byte == slash) bytes

-- bytes are a path: 1 to 200 printable characters, in components between `/`
abbrev pub is_path : List ℕ → Bool
is_path bytes = nat_le (length bytes) longest_path && (list_all is_graphic bytes && list_all is_path_part (path_parts bytes))

-- bytes are a line: at most 4,096, none of them LF
abbrev pub is_line : List ℕ → Bool
is_line bytes = nat_le (length bytes) longest_line && list_all (λ byte. not (byte == newline)) bytes
