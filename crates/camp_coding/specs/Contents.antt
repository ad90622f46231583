-- Contents of git's files as lines of camp.
use Rattle.std.specs.Prelude.{◌≡◌, ℕ, zero, suc, ◌-◌, ◌<◌, Bool, true, false, not, ◌&&◌, ◌||◌, ◌==◌, List, [], ◌∷◌, ◌++◌, length, take, drop, nat_lt, if◌then◌else◌, Option, None, Some}
use Rattle.std.specs.List.{flat_map, list_any, slice_split}
use Rattle.camp_base.specs.Limits.{longest_line}
use Rattle.camp_base.specs.Signs.{newline}
use Rattle.camp_base.specs.Trees.{Lines}

-- the bytes of a line and LF
abbrev pub ended_line : List ℕ → List ℕ
ended_line line = line ++ newline ∷ []

-- a text, without its last byte if it lacks its final line feed
abbrev pub without_last_if : Bool → List ℕ → List ℕ
without_last_if true text = take (length text - 1) text
without_last_if false text = text

-- the content of lines: a line feed after each, except after the last one if the content lacks it
abbrev pub content_of_lines : Lines → Bool → List ℕ
content_of_lines lines lacks_newline = without_last_if lacks_newline (flat_map ended_line lines)

-- the last line is not empty
abbrev pub HasFullLastLine : Lines → Type 0
HasFullLastLine lines = (before : Lines) × (last : List ℕ) × (lines ≡ before ++ last ∷ []) × (0 < length last)

-- a content has these lines; if the last one lacks its line feed, that one is not empty
pub record HasLines (content : List ℕ) (lines : Lines) (lacks_newline : Bool) : Type 0 where
  pub content_is : content_of_lines lines lacks_newline ≡ content
  pub last : lacks_newline ≡ true → HasFullLastLine lines

-- pieces of a text, without the last one if it is empty
abbrev pub without_empty_end : Lines → Lines
without_empty_end [] = []
without_empty_end (last ∷ []) = if length last == 0 then [] else last ∷ []
without_empty_end (piece ∷ next ∷ more) = piece ∷ without_empty_end (next ∷ more)

-- whether the last piece is not empty
abbrev pub has_full_last : Lines → Bool
has_full_last [] = false
has_full_last (last ∷ []) = not (length last == 0)
has_full_last (piece ∷ next ∷ more) = has_full_last (next ∷ more)

-- the pieces of a content between its LFs
abbrev pub between_newlines : List ℕ → Lines
between_newlines content = slice_split (λ byte. byte == newline) content

-- the lines of a content; what follows the last LF is one only if it is not empty
abbrev pub content_lines : List ℕ → Lines
content_lines content = without_empty_end (between_newlines content)

-- whether the last line of a content lacks its LF
abbrev pub lacks_last_newline : List ℕ → Bool
lacks_last_newline content = has_full_last (between_newlines content)

-- the most bytes of a line in one piece
abbrev pub longest_piece : ℕ
longest_piece = 4_095

-- `+`, the mark of a piece whose line continues
abbrev pub goes_on : ℕ
goes_on = 43

-- `=`, the mark of the last piece of a line
abbrev pub ends : ℕ
ends = 61

-- a line in at most `count + 1` pieces: each is its mark and as many bytes as fit
abbrev pub wrapped_in : ℕ → List ℕ → Lines
wrapped_in zero line = (ends ∷ line) ∷ []
wrapped_in (suc count) line =
    if nat_lt longest_piece (length line)
    then (goes_on ∷ take longest_piece line) ∷ wrapped_in count (drop longest_piece line)
    else (ends ∷ line) ∷ []

-- a line in pieces, as many as it needs
abbrev pub wrapped : List ℕ → Lines
wrapped line = wrapped_in (length line) line

-- whether a line is longer than camp allows
abbrev pub is_too_long : List ℕ → Bool
is_too_long line = nat_lt longest_line (length line)

-- lines as camp stores them: in pieces, or unchanged
abbrev pub wrapped_if : Bool → Lines → Lines
wrapped_if true lines = flat_map wrapped lines
wrapped_if false lines = lines

-- whether the lines of a content are stored in pieces, since one of them is too long
abbrev pub needs_pieces : List ℕ → Bool
needs_pieces content = list_any is_too_long (content_lines content)

-- the lines that camp stores for a content
abbrev pub stored_lines : List ℕ → Lines
stored_lines content = wrapped_if (needs_pieces content) (content_lines content)

-- these are the lines of a content, whether they are stored in pieces, and whether the last one lacks its LF
abbrev pub StoresContent : List ℕ → Lines → Bool → Bool → Type 0
StoresContent content stored is_wrapped lacks_newline =
    (stored ≡ stored_lines content) × (is_wrapped ≡ needs_pieces content) × (lacks_newline ≡ lacks_last_newline content)

-- camp stores these lines for a content: pieces exactly if a line is too long
pub record Encodes (content : List ℕ) (stored : Lines) (is_wrapped lacks_newline : Bool) : Type 0 where
  pub lines : Lines
  pub has : HasLines content lines lacks_newline
  pub wraps : is_wrapped ≡ list_any is_too_long lines
  pub stored_is : stored ≡ wrapped_if is_wrapped lines

-- a piece is the last one of its line
abbrev pub ends_line : List ℕ → Bool
ends_line [] = false
ends_line (mark ∷ bytes) = mark == ends

-- a piece begins with a mark
abbrev pub has_mark : List ℕ → Bool
has_mark [] = false
has_mark (mark ∷ bytes) = mark == ends || mark == goes_on

-- lines are pieces, given whether the one before them ended its line: each begins with a mark, and the last one ends
-- its line
abbrev pub are_pieces_after : Bool → Lines → Bool
are_pieces_after ended [] = ended
are_pieces_after ended (piece ∷ pieces) = has_mark piece && are_pieces_after (ends_line piece) pieces

-- lines are pieces of whole lines
abbrev pub are_pieces : Lines → Bool
are_pieces lines = are_pieces_after true lines

-- the content of a piece: its bytes without the mark, and a line feed if it ends its line
abbrev pub piece_content : List ℕ → List ℕ
piece_content [] = []
piece_content (mark ∷ bytes) = if mark == ends then ended_line bytes else bytes

-- the text of stored lines: a line feed after each line
abbrev pub stored_text : Bool → Lines → List ℕ
stored_text true stored = flat_map piece_content stored
stored_text false stored = flat_map ended_line stored

-- the content that stored lines represent; none if they represent none
abbrev pub decoded : Lines → Bool → Bool → Option (List ℕ)
decoded stored is_wrapped lacks_newline =
    if is_wrapped && not (are_pieces stored) then None
    else Some (without_last_if lacks_newline (stored_text is_wrapped stored))

-- decoding an encoded content gives that content
abbrev pub ContentsComeBack : Type 0
ContentsComeBack =
    (content : List ℕ) (stored : Lines) (is_wrapped lacks_newline : Bool)
    → Encodes content stored is_wrapped lacks_newline → decoded stored is_wrapped lacks_newline ≡ Some content
