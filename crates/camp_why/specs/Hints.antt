-- Hints on a line that has a fault.
use Rattle.std.specs.Prelude.{◌≡◌, ◌⊎◌, ℕ, Bool, true, false, not, ◌&&◌, ◌||◌, ◌==◌, List, [], ◌∷◌, length, slice_index, bytes_eq, codes, if◌then◌else◌}
use Rattle.std.specs.List.{ends_with, list_any, starts_with}
use Rattle.camp_base.specs.Bytes.{is_name}
use Rattle.camp_base.specs.Signs.{is_capital_letter, is_printing, quote, tab}
use Rattle.camp_script.specs.AfterWords.{after_word}
use Rattle.camp_script.specs.Lines.{words_of}
use Rattle.camp_script.specs.Pieces.{begins_edit, begins_with}
use Rattle.camp_script.specs.declared.faults.FaultKind.{FaultKind}
use Rattle.camp_script.specs.declared.faults.FaultKind.TheVariants.{BadEdit, BadGroup, BadLine, BadName, BadNumber, BadPath, UnknownCommand, WrongNumberOfWords}
use Rattle.camp_why.specs.declared.hints.Hint.{Hint}
use Rattle.camp_why.specs.declared.hints.Hint.TheVariants as seen

-- ---- bytes, words and lines

-- a line begins with these bytes
abbrev pub begins : List ℕ → List ℕ → Bool
begins front line = starts_with ◌==◌ line front

-- a line or a word ends with a carriage return
abbrev pub ends_in_return : List ℕ → Bool
ends_in_return line = ends_with ◌==◌ line (codes "\r")

-- a word is only a carriage return
abbrev pub is_return : List ℕ → Bool
is_return word = bytes_eq word (codes "\r")

-- a word begins with the digit 0
abbrev pub begins_zero : List ℕ → Bool
begins_zero word = begins (codes "0") word

-- a byte is not the digit 0
abbrev pub is_other_than_zero : ℕ → Bool
is_other_than_zero byte = not (byte == 48)

-- a word is the number 0
abbrev pub is_zero : List ℕ → Bool
is_zero word = begins_zero word && not (list_any is_other_than_zero word)

-- a line begins with a space or a tab
abbrev pub begins_blank : List ℕ → Bool
begins_blank line = begins (codes " ") line || begins (codes "\t") line

-- a line has the first word `end` and a blank after it
abbrev pub begins_end : List ℕ → Bool
begins_end line = begins (codes "end ") line || begins (codes "end\t") line

-- a line has a first word that is allowed only in a body or a group
abbrev pub begins_inner : List ℕ → Bool
begins_inner line =
    begins_with (codes "end") (words_of line) || (begins_with (codes "done") (words_of line)
    || (begins_with (codes "add") (words_of line) || (begins_with (codes "remove") (words_of line)
    || begins_with (codes "edit") (words_of line))))

-- a line is `end` or empty, not counting a carriage return
abbrev pub is_returned_end : List ℕ → Bool
is_returned_end line = bytes_eq line (codes "end\r") || is_return line

-- a line is `end` in capitals
abbrev pub is_capital_end : List ℕ → Bool
is_capital_end line = bytes_eq line (codes "END") || bytes_eq line (codes "End")

-- a line ends a body
abbrev pub is_end : List ℕ → Bool
is_end line = bytes_eq line (codes "end")

-- a line is empty
abbrev pub is_empty_line : List ℕ → Bool
is_empty_line line = length line == 0

-- a line replaces one that was too long: it has 4,098 bytes, and the second is `?`
abbrev pub is_overlong : List ℕ → Bool
is_overlong line = length line == 4098 && slice_index line 1 == 63

-- a word begins with the sign of a line of a body
abbrev pub begins_signed : List ℕ → Bool
begins_signed word = begins (codes "+") word || begins (codes "-") word

-- a byte is a quotation mark
abbrev pub is_quote : ℕ → Bool
is_quote byte = byte == quote || byte == 39

-- a word begins with a quotation mark
abbrev pub begins_quoted : List ℕ → Bool
begins_quoted word = begins (codes "\"") word || begins (codes "'") word

-- a byte is neither a printable character of ASCII nor a blank
abbrev pub is_strange : ℕ → Bool
is_strange byte = not (byte == tab || is_printing byte)

-- the first word, or an empty one if there is none
abbrev pub first_word : List (List ℕ) → List ℕ
first_word [] = []
first_word (word ∷ words) = word

-- the first word that is not a name, or an empty one if there is none
abbrev pub misnamed : List (List ℕ) → List ℕ
misnamed [] = []
misnamed (word ∷ words) = if is_name word then misnamed words else word

-- the last two words; the two given ones come before the first word
abbrev pub last_words : List ℕ → List ℕ → List (List ℕ) → List ℕ × List ℕ
last_words before last [] = (before, last)
last_words before last (word ∷ words) = last_words last word words

-- the line of a call: after `whatif` the rest, else the whole line
abbrev pub call_part : List ℕ → List ℕ
call_part line = if begins_with (codes "whatif") (words_of line) then after_word line else line

-- the word that names the command: of a record the fourth, of any other call the first
abbrev pub call_word : List ℕ → List ℕ
call_word line =
    if begins_with (codes "record") (words_of line)
    then first_word (words_of (after_word (after_word (after_word line))))
    else first_word (words_of line)

-- the word that should be a command: after `help` the second, else the one that names the call's command
abbrev pub command_word : List ℕ → List ℕ
command_word line =
    if begins_with (codes "help") (words_of line) then first_word (words_of (after_word line)) else call_word (call_part line)

-- the word that should be a path: in the line of an edit the last but one, else the last
abbrev pub path_word : List ℕ → List ℕ
path_word line =
    if begins_edit (words_of (call_part line)) then (last_words [] [] (words_of line)).0 else (last_words [] [] (words_of line)).1

-- the word that should be a number: the last one
abbrev pub number_word : List ℕ → List ℕ
number_word line = (last_words [] [] (words_of line)).1

-- ---- the hint

-- the hint on a word that is not a command, or not a name; if no hint applies, the other hint
abbrev pub word_hint : List ℕ → Hint → Hint
word_hint word other =
    if ends_in_return word then seen.CarriageReturn
    else (if list_any is_strange word then seen.Strange
    else (if list_any is_quote word then seen.Quotes
    else (if list_any is_capital_letter word then seen.Capitals
    else other)))

-- a line is a record, perhaps after `whatif`
abbrev pub is_record_line : List ℕ → Bool
is_record_line line = begins_with (codes "record") (words_of (call_part line))

-- the hint on the first word of a line that is not a command
abbrev pub form_hint : List ℕ → Hint
form_hint line =
    if begins_with (codes "client") (words_of line) then seen.OfScript
    else (if is_record_line line then seen.NoChange
    else (if begins_with (codes "whatif") (words_of line) then seen.NoCall
    else (if begins_with (codes "help") (words_of line) then seen.NoTopic
    else (if begins_inner line then seen.OfInner
    else seen.Nothing))))

-- the hint on a line with an unknown command, given the word in its place; if no hint applies, the other hint
abbrev pub line_hint : List ℕ → List ℕ → Hint → Hint
line_hint line word other =
    if is_overlong line then seen.TooLong
    else (if begins_signed (first_word (words_of line)) then seen.OfBody
    else word_hint word other)

-- the hint on a line with too few or too many words
abbrev pub count_hint : List (List ℕ) → Hint
count_hint words =
    if list_any is_return words then seen.CarriageReturn
    else (if list_any begins_quoted words then seen.Quotes
    else seen.Nothing)

-- the hint on a word that should be a path
abbrev pub path_hint : List ℕ → Hint
path_hint word =
    if ends_in_return word then seen.CarriageReturn
    else (if list_any is_strange word then seen.Strange
    else seen.Nothing)

-- a word is the number of a refusal with a leading zero, which only LINE may have
abbrev pub has_zero_in_front : List ℕ → Bool
has_zero_in_front line = begins_with (codes "help") (words_of line) && begins_zero (number_word line)

-- the hint on a line with a number, or on the `end` of an edit that reaches too far
abbrev pub number_hint : List ℕ → Hint
number_hint line =
    if is_end line then seen.TooFar
    else (if ends_in_return (number_word line) then seen.CarriageReturn
    else (if is_zero (number_word line) then seen.Zero
    else (if has_zero_in_front line then seen.ZeroInFront
    else seen.Nothing)))

-- the hint on a line of a body that may be too long
abbrev pub long_hint : List ℕ → Hint
long_hint line = if is_overlong line then seen.TooLong else seen.Nothing

-- the hint on a line of a body without a sign
abbrev pub unsigned_hint : List ℕ → Hint
unsigned_hint line =
    if is_returned_end line then seen.CarriageReturn
    else (if is_capital_end line then seen.Capitals
    else seen.NoSign)

-- the hint on a line of a body
abbrev pub edit_hint : List ℕ → Hint
edit_hint line =
    if is_overlong line then seen.TooLong
    else (if is_empty_line line then seen.Empty
    else (if begins_blank line then seen.Blank
    else (if is_end line then seen.NoLine
    else (if begins_end line then seen.MoreThanEnd
    else (if begins (codes "-") line then seen.OldAfterNew
    else (if begins (codes "+") line then seen.Nothing
    else unsigned_hint line))))))

-- the hint on a line with a fault of this kind
abbrev pub hint : FaultKind → List ℕ → Hint
hint UnknownCommand line = line_hint line (command_word line) (form_hint line)
hint BadGroup line = line_hint line (first_word (words_of line)) seen.Nothing
hint BadName line = word_hint (misnamed (words_of line)) seen.Nothing
hint WrongNumberOfWords line = count_hint (words_of line)
hint BadPath line = path_hint (path_word line)
hint BadNumber line = number_hint line
hint BadLine line = long_hint line
hint BadEdit line = edit_hint line
hint other line = seen.Nothing

-- ---- the meaning of a hint

-- the word that has the fault or, if a fault of this kind is not about one word, the line
abbrev pub faulty : FaultKind → List ℕ → List ℕ
faulty UnknownCommand line = command_word line
faulty BadGroup line = first_word (words_of line)
faulty BadName line = misnamed (words_of line)
faulty BadPath line = path_word line
faulty BadNumber line = number_word line
faulty other line = line

-- the faulty word ends with a carriage return; if the number of words is wrong: one of them is only a carriage return
abbrev pub has_return : FaultKind → List ℕ → Bool
has_return WrongNumberOfWords line = list_any is_return (words_of line)
has_return kind line = ends_in_return (faulty kind line)

-- the faulty word has a quotation mark; if the number of words is wrong: one of them begins with a quotation mark
abbrev pub has_quote : FaultKind → List ℕ → Bool
has_quote WrongNumberOfWords line = list_any begins_quoted (words_of line)
has_quote kind line = list_any is_quote (faulty kind line)

-- the fault is one of the word that should be a command, or of a change in a group
abbrev pub IsOfCommand : FaultKind → Type 0
IsOfCommand kind = (kind ≡ UnknownCommand) ⊎ (kind ≡ BadGroup)

-- what a hint says of a line with a fault of this kind is true; a hint that only some kinds of faults can have is given
-- for those kinds only
abbrev pub HintIsTrue : FaultKind → List ℕ → Hint → Type 0
HintIsTrue kind line seen.Nothing = Unit {0}
HintIsTrue kind line seen.OfBody = IsOfCommand kind × (begins_signed (first_word (words_of line)) ≡ true)
HintIsTrue kind line seen.OfScript = (kind ≡ UnknownCommand) × (begins_with (codes "client") (words_of line) ≡ true)
HintIsTrue kind line seen.NoChange = (kind ≡ UnknownCommand) × (is_record_line line ≡ true)
HintIsTrue kind line seen.NoCall = (kind ≡ UnknownCommand) × (begins_with (codes "whatif") (words_of line) ≡ true)
HintIsTrue kind line seen.NoTopic = (kind ≡ UnknownCommand) × (begins_with (codes "help") (words_of line) ≡ true)
HintIsTrue kind line seen.OfInner = (kind ≡ UnknownCommand) × (begins_inner line ≡ true)
HintIsTrue kind line seen.TooLong = is_overlong line ≡ true
HintIsTrue kind line seen.CarriageReturn = has_return kind line ≡ true
HintIsTrue kind line seen.Strange = list_any is_strange (faulty kind line) ≡ true
HintIsTrue kind line seen.Quotes = has_quote kind line ≡ true
HintIsTrue kind line seen.Capitals = list_any is_capital_letter (faulty kind line) ≡ true
HintIsTrue kind line seen.Zero = is_zero (faulty kind line) ≡ true
HintIsTrue kind line seen.ZeroInFront = (begins_with (codes "help") (words_of line) ≡ true) × (begins_zero (faulty kind line) ≡ true)
HintIsTrue kind line seen.Empty = (kind ≡ BadEdit) × (is_empty_line line ≡ true)
HintIsTrue kind line seen.Blank = (kind ≡ BadEdit) × (begins_blank line ≡ true)
HintIsTrue kind line seen.NoLine = (kind ≡ BadEdit) × (is_end line ≡ true)
HintIsTrue kind line seen.TooFar = (kind ≡ BadNumber) × (is_end line ≡ true)
HintIsTrue kind line seen.MoreThanEnd = (kind ≡ BadEdit) × (begins_end line ≡ true)
HintIsTrue kind line seen.OldAfterNew = (kind ≡ BadEdit) × (begins (codes "-") line ≡ true)
HintIsTrue kind line seen.NoSign =
    (kind ≡ BadEdit) × (begins_signed line ≡ false) × (is_end line ≡ false) × (is_empty_line line ≡ false)

-- no hint applies to a word that should be a name or a command
pub record HasNoWordHint (word : List ℕ) : Type 0 where
  pub returns : ends_in_return word ≡ false
  pub strange : list_any is_strange word ≡ false
  pub quotes : list_any is_quote word ≡ false
  pub capitals : list_any is_capital_letter word ≡ false

-- a line has no sign, and its first word is not one of another kind of line
pub record HasNoForm (line : List ℕ) : Type 0 where
  pub signed : begins_signed (first_word (words_of line)) ≡ false
  pub of_script : begins_with (codes "client") (words_of line) ≡ false
  pub records : is_record_line line ≡ false
  pub foresees : begins_with (codes "whatif") (words_of line) ≡ false
  pub helps : begins_with (codes "help") (words_of line) ≡ false
  pub inner : begins_inner line ≡ false

-- no hint applies to a line with a fault of this kind
abbrev pub ShowsNothing : FaultKind → List ℕ → Type 0
ShowsNothing UnknownCommand line = (is_overlong line ≡ false) × HasNoWordHint (command_word line) × HasNoForm line
ShowsNothing BadGroup line =
    (is_overlong line ≡ false) × (begins_signed (first_word (words_of line)) ≡ false) × HasNoWordHint (first_word (words_of line))
ShowsNothing BadName line = HasNoWordHint (misnamed (words_of line))
ShowsNothing WrongNumberOfWords line =
    (list_any is_return (words_of line) ≡ false) × (list_any begins_quoted (words_of line) ≡ false)
ShowsNothing BadPath line = (ends_in_return (path_word line) ≡ false) × (list_any is_strange (path_word line) ≡ false)
ShowsNothing BadNumber line =
    (is_end line ≡ false) × (ends_in_return (number_word line) ≡ false) × (is_zero (number_word line) ≡ false)
    × (has_zero_in_front line ≡ false)
ShowsNothing BadLine line = is_overlong line ≡ false
ShowsNothing BadEdit line = (is_overlong line ≡ false) × (begins (codes "+") line ≡ true)
ShowsNothing other line = Unit {0}

-- for each kind of fault and each line, the hint is true; and if there is none, no hint applies
pub record HintsAreSeen : Type 0 where
  pub reported : (kind : FaultKind) (line : List ℕ) → HintIsTrue kind line (hint kind line)
  pub none : (kind : FaultKind) (line : List ℕ) → hint kind line ≡ seen.Nothing → ShowsNothing kind line
