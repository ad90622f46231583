-- Reading and writing items: the first item in bytes and the bytes after it, or its fault.
use Rattle.std.specs.Prelude.{◌≡◌, ℕ, ◌+◌, ◌-◌, ◌*◌, ◌<◌, ◌^◌, Bool, true, false, not, ◌&&◌, ◌==◌, if◌then◌else◌, nat_lt, nat_le, List, [], ◌∷◌, ◌++◌, length, take, drop, fold, Option, None, Some, Result, Ok, Err, bytes_eq, codes}
use Rattle.std.specs.Borrow.{Bor}
use Rattle.std.specs.Fmt.{decimal}
use Rattle.std.specs.List.{list_all, position_or_len}
use Rattle.camp_base.specs.Signs.{digit_zero, is_between, is_digit, newline, space}
use Rattle.camp_coding.specs.Modes.{mode_text}
use Rattle.camp_coding.specs.declared.modes.Mode.{Mode}
use Rattle.camp_coding.specs.declared.modes.Mode.TheVariants.{Regular, Executable, Symlink, Submodule}
use Rattle.camp_stream.specs.StreamValues.{ItemValue, Bare, Blank, Data, Delete, Mark, Modify, Text, value_of_item}
use Rattle.camp_stream.specs.declared.items.BareItem.{BareItem}
use Rattle.camp_stream.specs.declared.items.BareItem.TheVariants.{Blob, Checkpoint, DeleteAll, Done}
use Rattle.camp_stream.specs.declared.items.StreamItem.{StreamItem}
use Rattle.camp_stream.specs.declared.items.StreamFaultKind.{StreamFaultKind}
use Rattle.camp_stream.specs.declared.items.StreamFaultKind.TheVariants.{BadLength, BadMark, BadMode, BadModify, CopyOrRename, CutOff, UnknownCommand}
use Rattle.camp_stream.specs.declared.items.TextItem.{TextItem}
use Rattle.camp_stream.specs.declared.items.TextItem.TheVariants as text

-- the word of an item that is a word alone
abbrev pub bare_word : BareItem → List ℕ
bare_word Blob = codes "blob"
bare_word DeleteAll = codes "deleteall"
bare_word Checkpoint = codes "checkpoint"
bare_word Done = codes "done"

-- the item that consists of this word alone, if there is one
abbrev pub bare_item : List ℕ → Option BareItem
bare_item word =
    if bytes_eq word (codes "blob") then Some Blob
    else (if bytes_eq word (codes "deleteall") then Some DeleteAll
    else (if bytes_eq word (codes "checkpoint") then Some Checkpoint
    else (if bytes_eq word (codes "done") then Some Done else None)))

-- the word of an item that has a word and a text
abbrev pub text_word : TextItem → List ℕ
text_word text.Commit = codes "commit"
text_word text.Tag = codes "tag"
text_word text.Reset = codes "reset"
text_word text.OriginalOid = codes "original-oid"
text_word text.Author = codes "author"
text_word text.Committer = codes "committer"
text_word text.Tagger = codes "tagger"
text_word text.Encoding = codes "encoding"
text_word text.From = codes "from"
text_word text.Merge = codes "merge"
text_word text.Progress = codes "progress"
text_word text.Feature = codes "feature"
text_word text.Option = codes "option"

-- the item with this word and a text that describes a commit or a tag, if there is one
abbrev pub described_item : List ℕ → Option TextItem
described_item word =
    if bytes_eq word (codes "original-oid") then Some text.OriginalOid
    else (if bytes_eq word (codes "author") then Some text.Author
    else (if bytes_eq word (codes "committer") then Some text.Committer
    else (if bytes_eq word (codes "tagger") then Some text.Tagger
    else (if bytes_eq word (codes "encoding") then Some text.Encoding
    else (if bytes_eq word (codes "from") then Some text.From
    else (if bytes_eq word (codes "merge") then Some text.Merge else None))))))

-- the item with this word and a text, if there is one
abbrev pub text_item : List ℕ → Option TextItem
text_item word =
    if bytes_eq word (codes "commit") then Some text.Commit
    else (if bytes_eq word (codes "tag") then Some text.Tag
    else (if bytes_eq word (codes "reset") then Some text.Reset
    else (if bytes_eq word (codes "progress") then Some text.Progress
    else (if bytes_eq word (codes "feature") then Some text.Feature
    else (if bytes_eq word (codes "option") then Some text.Option else described_item word)))))

-- the bytes before the first one that equals `mark`, and those after it; none if no byte does
abbrev pub cut_at : ℕ → List ℕ → Option (List ℕ × List ℕ)
cut_at mark bytes =
    let len = position_or_len (λ byte. byte == mark) bytes in
    if nat_lt len (length bytes) then Some (take len bytes, drop (len + 1) bytes) else None

-- continues with a value, if there is one, else with another result
abbrev pub read_or : {A B : Type 0} → Option A → Result B StreamFaultKind → (A → Result B StreamFaultKind) → Result B StreamFaultKind
read_or None otherwise next = otherwise
read_or (Some found) otherwise next = next found

-- the value of decimal digits
abbrev pub decimal_value : List ℕ → ℕ
decimal_value digits = fold (λ value digit. value * 10 + (digit - digit_zero)) 0 digits

-- whether a text is `:` and decimal digits
abbrev pub is_mark : List ℕ → Bool
is_mark [] = false
is_mark (colon ∷ digits) = colon == 58 && (not (length digits == 0) && list_all is_digit digits)

-- whether a text is 1 to 10 decimal digits
abbrev pub is_data_length : List ℕ → Bool
is_data_length text = is_between 1 10 (length text) && list_all is_digit text

-- the mode with these digits, in the forms that `git fast-import` accepts
abbrev pub mode_of_digits : List ℕ → Option Mode
mode_of_digits digits =
    if bytes_eq digits (codes "100644") then Some Regular
    else (if bytes_eq digits (codes "644") then Some Regular
    else (if bytes_eq digits (codes "100755") then Some Executable
    else (if bytes_eq digits (codes "755") then Some Executable
    else (if bytes_eq digits (codes "120000") then Some Symlink
    else (if bytes_eq digits (codes "160000") then Some Submodule else None)))))

-- an item and the bytes after it
abbrev pub ItemAndRest : Type 0
ItemAndRest = ItemValue × List ℕ

-- the item of a line `mark :N`
abbrev pub mark_item : List ℕ → List ℕ → Result ItemAndRest StreamFaultKind
mark_item text rest = if is_mark text then Ok (Mark text, rest) else Err BadMark

-- the item of a line `data N` and the N bytes after it
abbrev pub data_item : List ℕ → List ℕ → Result ItemAndRest StreamFaultKind
data_item text rest =
    if is_data_length text then
    (if nat_le (decimal_value text) (length rest) then Ok (Data (take (decimal_value text) rest), drop (decimal_value text) rest)
    else Err CutOff)
    else Err BadLength

-- the item of a line `M MODE CONTENT PATH`
abbrev pub modify_item : List ℕ → List ℕ → Result ItemAndRest StreamFaultKind
modify_item text rest =
    read_or (cut_at space text) (Err BadModify) (λ first.
    read_or (mode_of_digits first.0) (Err BadMode) (λ mode.
    read_or (cut_at space first.1) (Err BadModify) (λ second. Ok (Modify mode second.0 second.1, rest))))

-- the item of a line with this first word and this text after it
abbrev pub word_item : List ℕ → List ℕ → List ℕ → Result ItemAndRest StreamFaultKind
word_item word text rest =
    if bytes_eq word (codes "M") then modify_item text rest
    else (if bytes_eq word (codes "D") then Ok (Delete text, rest)
    else (if bytes_eq word (codes "mark") then mark_item text rest
    else (if bytes_eq word (codes "data") then data_item text rest
    else (if bytes_eq word (codes "C") then Err CopyOrRename
    else (if bytes_eq word (codes "R") then Err CopyOrRename
    else Err UnknownCommand)))))

-- the item of a line that has a space
abbrev pub spaced_item : List ℕ → List ℕ → List ℕ → Result ItemAndRest StreamFaultKind
spaced_item word text rest =
    read_or (text_item word) (word_item word text rest) (λ item. Ok (Text item text, rest))

-- the item of a line, with the bytes after the line
abbrev pub line_item : List ℕ → List ℕ → Result ItemAndRest StreamFaultKind
line_item line rest =
    if length line == 0 then Ok (Blank, rest)
    else read_or (bare_item line)
    (read_or (cut_at space line) (Err UnknownCommand) (λ parts. spaced_item parts.0 parts.1 rest))
    (λ item. Ok (Bare item, rest))

-- the first item of bytes and the bytes after it, or its fault
abbrev pub item_at : List ℕ → Result ItemAndRest StreamFaultKind
item_at bytes = read_or (cut_at newline bytes) (Err CutOff) (λ parts. line_item parts.0 parts.1)

-- the result is the item that was read, or its fault
abbrev pub GivesItem : Result (StreamItem × Bor (List ℕ)) StreamFaultKind → Result ItemAndRest StreamFaultKind → Type 0
GivesItem (Ok found) reading = reading ≡ Ok (value_of_item found.0, found.1.now)
GivesItem (Err fault) reading = reading ≡ Err fault

-- the bytes of an item
abbrev pub item_text : ItemValue → List ℕ
item_text Blank = newline ∷ []
item_text (Bare item) = bare_word item ++ newline ∷ []
item_text (Text item text) = text_word item ++ space ∷ text ++ newline ∷ []
item_text (Mark mark) = codes "mark " ++ mark ++ newline ∷ []
item_text (Data bytes) = codes "data " ++ decimal (length bytes) ++ newline ∷ bytes
item_text (Modify mode content path) = codes "M " ++ mode_text mode ++ space ∷ content ++ space ∷ path ++ newline ∷ []
item_text (Delete path) = codes "D " ++ path ++ newline ∷ []

-- no byte equals the mark
abbrev pub has_no : ℕ → List ℕ → Bool
has_no mark bytes = list_all (λ byte. not (byte == mark)) bytes

-- an item can be written: each of its texts is on one line and has the form that the item needs
abbrev pub IsWritable : ItemValue → Type 0
IsWritable Blank = Unit {0}
IsWritable (Bare item) = Unit {0}
IsWritable (Text item text) = has_no newline text ≡ true
IsWritable (Mark mark) = is_mark mark ≡ true
IsWritable (Data bytes) = length bytes < 10 ^ 10
IsWritable (Modify mode content path) = (has_no newline content ≡ true) × (has_no space content ≡ true) × (has_no newline path ≡ true)
IsWritable (Delete path) = has_no newline path ≡ true

-- reading the bytes of an item that can be written gives that item, and leaves all bytes after it
abbrev pub ItemsComeBack : Type 0
ItemsComeBack = (item : ItemValue) (rest : List ℕ) → IsWritable item → item_at (item_text item ++ rest) ≡ Ok (item, rest)
