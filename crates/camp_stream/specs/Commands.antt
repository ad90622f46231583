-- Reading commands: the first command in bytes and the bytes after it, or the first fault.
use Rattle.std.specs.Prelude.{◌≡◌, ℕ, zero, suc, ◌+◌, ◌-◌, ◌==◌, if◌then◌else◌, List, [], ◌∷◌, length, take, Option, None, Some, Result, Ok, Err, bytes_eq}
use Rattle.std.specs.List.{count_by}
use Rattle.camp_base.specs.Results.{◌>>=◌}
use Rattle.camp_base.specs.Signs.{newline}
use Rattle.camp_stream.specs.CommandValues.{BlobValue, ChangeValue, CommandValue, CommitValue, ResetValue, TagValue, BlobCommand, CheckpointCommand, CommitCommand, DeleteEntries, DeleteEntry, DoneCommand, FeatureCommand, OptionCommand, ProgressCommand, ResetCommand, SetEntry, TagCommand}
use Rattle.camp_stream.specs.StreamItems.{ItemAndRest, item_at, text_word}
use Rattle.camp_stream.specs.StreamValues.{ItemValue, Bare, Blank, Data, Delete, Mark, Modify, Text}
use Rattle.camp_stream.specs.declared.commands.ReadError.{ReadError}
use Rattle.camp_stream.specs.declared.commands.ReadError.TheVariants as error
use Rattle.camp_stream.specs.declared.commands.StreamFault.{StreamFault}
use Rattle.camp_stream.specs.declared.items.BareItem.{BareItem}
use Rattle.camp_stream.specs.declared.items.BareItem.TheVariants.{Blob, Checkpoint, DeleteAll, Done}
use Rattle.camp_stream.specs.declared.items.StreamFaultKind.{StreamFaultKind}
use Rattle.camp_stream.specs.declared.items.StreamFaultKind.TheVariants.{Misplaced}
use Rattle.camp_stream.specs.declared.items.TextItem.{TextItem}
use Rattle.camp_stream.specs.declared.items.TextItem.TheVariants as text

-- a value that was read and the bytes after it, or a fault
abbrev pub ReadResult : Type 0 → Type 0
ReadResult A = Result (A × List ℕ) StreamFault

-- a fault of the item at the start of these bytes
abbrev pub item_fault : StreamFaultKind → List ℕ → StreamFault
item_fault kind bytes = record { kind = kind; left = length bytes }

-- an item, or its fault with the number of bytes that are left
abbrev pub located : List ℕ → Result ItemAndRest StreamFaultKind → ReadResult ItemValue
located bytes (Ok found) = Ok found
located bytes (Err kind) = Err (item_fault kind bytes)

-- the item at the start of bytes, and the bytes after it
unfoldable pub first_item : List ℕ → ReadResult ItemValue
first_item bytes = located bytes (item_at bytes)

-- the text of an item if its word is this one
abbrev pub text_if : TextItem → ItemValue → Option (List ℕ)
text_if wanted Blank = None
text_if wanted (Bare item) = None
text_if wanted (Text item text) = if bytes_eq (text_word item) (text_word wanted) then Some text else None
text_if wanted (Mark mark) = None
text_if wanted (Data bytes) = None
text_if wanted (Modify mode content path) = None
text_if wanted (Delete path) = None

-- the mark of an item, if it has one
abbrev pub mark_if : ItemValue → Option (List ℕ)
mark_if Blank = None
mark_if (Bare item) = None
mark_if (Text item text) = None
mark_if (Mark mark) = Some mark
mark_if (Data bytes) = None
mark_if (Modify mode content path) = None
mark_if (Delete path) = None

-- the bytes of an item, if it is data
abbrev pub data_if : ItemValue → Option (List ℕ)
data_if Blank = None
data_if (Bare item) = None
data_if (Text item text) = None
data_if (Mark mark) = None
data_if (Data bytes) = Some bytes
data_if (Modify mode content path) = None
data_if (Delete path) = None

-- whether an item is an empty line
abbrev pub blank_if : ItemValue → Option (Unit {0})
blank_if Blank = Some tt
blank_if (Bare item) = None
blank_if (Text item text) = None
blank_if (Mark mark) = None
blank_if (Data bytes) = None
blank_if (Modify mode content path) = None
blank_if (Delete path) = None

-- the change that a word alone makes: `deleteall` deletes all entries
abbrev pub bare_change_if : BareItem → Option ChangeValue
bare_change_if Blob = None
bare_change_if DeleteAll = Some DeleteEntries
bare_change_if Checkpoint = None
bare_change_if Done = None

-- the change that an item makes, if it is one of a commit's entries
abbrev pub change_if : ItemValue → Option ChangeValue
change_if Blank = None
change_if (Bare item) = bare_change_if item
change_if (Text item text) = None
change_if (Mark mark) = None
change_if (Data bytes) = None
change_if (Modify mode content path) = Some (SetEntry mode content path)
change_if (Delete path) = Some (DeleteEntry path)

-- an optional item, given the value that was made from it: without a value it is not read
abbrev pub item_if_wanted : {A : Type 0} → Option A → (bytes rest : List ℕ) → ReadResult (Option A)
item_if_wanted None bytes rest = Ok (None, bytes)
item_if_wanted (Some value) bytes rest = Ok (Some value, rest)

-- an optional item: the next one, if `wanted` makes a value of it
unfoldable pub optional : {A : Type 0} → (ItemValue → Option A) → List ℕ → ReadResult (Option A)
optional wanted bytes =
    if length bytes == 0 then Ok (None, bytes)
    else first_item bytes >>= λ found. item_if_wanted (wanted found.0) bytes found.1

-- a required item, given the value that was made from it: without a value it is misplaced
abbrev pub must_be_wanted : {A : Type 0} → Option A → (bytes rest : List ℕ) → ReadResult A
must_be_wanted None bytes rest = Err (item_fault Misplaced bytes)
must_be_wanted (Some value) bytes rest = Ok (value, rest)

-- a required item: the next one, of which `wanted` must make a value
unfoldable pub required : {A : Type 0} → (ItemValue → Option A) → List ℕ → ReadResult A
required wanted bytes = first_item bytes >>= λ found. must_be_wanted (wanted found.0) bytes found.1

-- a value and those read after it; without a value nothing more is read
abbrev pub with_others : {A : Type 0} → Option A → List ℕ → ReadResult (List A) → ReadResult (List A)
with_others None rest others = Ok ([], rest)
with_others (Some value) rest others = others >>= λ more. Ok (value ∷ more.0, more.1)

-- values read one after another, up to the first that is absent, at most this many
unfoldable pub many : {A : Type 0} → (List ℕ → ReadResult (Option A)) → ℕ → List ℕ → ReadResult (List A)
many read zero bytes = Ok ([], bytes)
many read (suc count) bytes = read bytes >>= λ found. with_others found.0 found.1 (many read count found.1)

-- the text of the next item if its word is this one, else none
abbrev pub optional_text : TextItem → List ℕ → ReadResult (Option (List ℕ))
optional_text item bytes = optional (text_if item) bytes

-- required data, and an optional empty line after it
unfoldable pub data_at : List ℕ → ReadResult (List ℕ)
data_at bytes = do
  found ← required data_if bytes
  blank ← optional blank_if found.1
  Ok (found.0, blank.1)

-- a blob, read after `blob`
unfoldable pub blob_at : List ℕ → ReadResult BlobValue
blob_at bytes = do
  mark ← optional mark_if bytes
  id ← optional_text text.OriginalOid mark.1
  content ← data_at id.1
  Ok (record { mark = mark.0; original_oid = id.0; content = content.0 }, content.1)

-- the merges of a commit, up to the first item that is none
unfoldable pub merges_at : List ℕ → ReadResult (List (List ℕ))
merges_at bytes = many (optional_text text.Merge) (length bytes) bytes

-- the changes of a commit, up to the first item that is none
unfoldable pub changes_at : List ℕ → ReadResult (List ChangeValue)
changes_at bytes = many (optional change_if) (length bytes) bytes

-- a commit, read after `commit` and its reference: mark, id, author, committer, encoding, message, parents and changes
unfoldable pub commit_at : List ℕ → List ℕ → ReadResult CommitValue
commit_at reference bytes = do
  mark ← optional mark_if bytes
  id ← optional_text text.OriginalOid mark.1
  author ← optional_text text.Author id.1
  committer ← required (text_if text.Committer) author.1
  encoding ← optional_text text.Encoding committer.1
  message ← data_at encoding.1
  from ← optional_text text.From message.1
  merges ← merges_at from.1
  changes ← changes_at merges.1
  blank ← optional blank_if changes.1
  Ok (
    record {
      reference = reference;
      mark = mark.0;
      original_oid = id.0;
      author = author.0;
      committer = committer.0;
      encoding = encoding.0;
      message = message.0;
      from = from.0;
      merges = merges.0;
      changes = changes.0;
    },
    blank.1,
  )

-- a reset, read after `reset` and its reference
unfoldable pub reset_at : List ℕ → List ℕ → ReadResult ResetValue
reset_at reference bytes = do
  from ← optional_text text.From bytes
  blank ← optional blank_if from.1
  Ok (record { reference = reference; from = from.0 }, blank.1)

-- a tag, read after `tag` and its name
unfoldable pub tag_at : List ℕ → List ℕ → ReadResult TagValue
tag_at name bytes = do
  mark ← optional mark_if bytes
  from ← required (text_if text.From) mark.1
  id ← optional_text text.OriginalOid from.1
  tagger ← optional_text text.Tagger id.1
  message ← data_at tagger.1
  Ok (record { name = name; mark = mark.0; from = from.0; original_oid = id.0; tagger = tagger.0; message = message.0 }, message.1)

-- a command of one item, with an optional empty line after it
unfoldable pub short_command : CommandValue → List ℕ → ReadResult CommandValue
short_command command bytes = optional blank_if bytes >>= λ blank. Ok (command, blank.1)

-- turns what was read into a command
abbrev pub as_command : {A : Type 0} → (A → CommandValue) → ReadResult A → ReadResult CommandValue
as_command command reading = reading >>= λ found. Ok (command found.0, found.1)

-- a command whose first item is a word and a text, read from bytes that begin with that item
abbrev pub text_command : TextItem → List ℕ → (bytes rest : List ℕ) → ReadResult CommandValue
text_command text.Commit line bytes rest = as_command CommitCommand (commit_at line rest)
text_command text.Tag line bytes rest = as_command TagCommand (tag_at line rest)
text_command text.Reset line bytes rest = as_command ResetCommand (reset_at line rest)
text_command text.OriginalOid line bytes rest = Err (item_fault Misplaced bytes)
text_command text.Author line bytes rest = Err (item_fault Misplaced bytes)
text_command text.Committer line bytes rest = Err (item_fault Misplaced bytes)
text_command text.Tagger line bytes rest = Err (item_fault Misplaced bytes)
text_command text.Encoding line bytes rest = Err (item_fault Misplaced bytes)
text_command text.From line bytes rest = Err (item_fault Misplaced bytes)
text_command text.Merge line bytes rest = Err (item_fault Misplaced bytes)
text_command text.Progress line bytes rest = short_command (ProgressCommand line) rest
text_command text.Feature line bytes rest = Ok (FeatureCommand line, rest)
text_command text.Option line bytes rest = Ok (OptionCommand line, rest)

-- a command whose first item is a word alone, read from bytes that begin with that item
abbrev pub bare_command : BareItem → (bytes rest : List ℕ) → ReadResult CommandValue
bare_command Blob bytes rest = as_command BlobCommand (blob_at rest)
bare_command DeleteAll bytes rest = Err (item_fault Misplaced bytes)
bare_command Checkpoint bytes rest = short_command CheckpointCommand rest
bare_command Done bytes rest = Ok (DoneCommand, rest)

-- a command, given its first item, read from bytes that begin with that item
abbrev pub command_from : ItemValue → (bytes rest : List ℕ) → ReadResult CommandValue
command_from Blank bytes rest = Err (item_fault Misplaced bytes)
command_from (Bare item) bytes rest = bare_command item bytes rest
command_from (Text item line) bytes rest = text_command item line bytes rest
command_from (Mark mark) bytes rest = Err (item_fault Misplaced bytes)
command_from (Data content) bytes rest = Err (item_fault Misplaced bytes)
command_from (Modify mode content path) bytes rest = Err (item_fault Misplaced bytes)
command_from (Delete path) bytes rest = Err (item_fault Misplaced bytes)

-- the first command of a stream and the bytes after it, or its fault
unfoldable pub command_at : List ℕ → ReadResult CommandValue
command_at bytes = first_item bytes >>= λ found. command_from found.0 bytes found.1

-- a command, or none if it is `done`
abbrev pub unless_done : CommandValue → Option CommandValue
unless_done (BlobCommand blob) = Some (BlobCommand blob)
unless_done (CommitCommand commit) = Some (CommitCommand commit)
unless_done (ResetCommand reset) = Some (ResetCommand reset)
unless_done (TagCommand tag) = Some (TagCommand tag)
unless_done (ProgressCommand line) = Some (ProgressCommand line)
unless_done (FeatureCommand line) = Some (FeatureCommand line)
unless_done (OptionCommand line) = Some (OptionCommand line)
unless_done CheckpointCommand = Some CheckpointCommand
unless_done DoneCommand = None

-- the next command; none at the end of the bytes or at `done`
unfoldable pub next_command : List ℕ → ReadResult (Option CommandValue)
next_command bytes =
    if length bytes == 0 then Ok (None, bytes)
    else command_at bytes >>= λ found. Ok (unless_done found.0, found.1)

-- the commands of a stream, up to its end or to `done`, and the bytes after that; or the first fault
unfoldable pub stream_at : List ℕ → ReadResult (List CommandValue)
stream_at bytes = many next_command (length bytes) bytes

-- an error: out of memory, or the fault that reading gives
abbrev pub FailsToRead : {A : Type 0} → ReadError → Result A StreamFault → Type 0
FailsToRead error.Memory reading = Unit {0}
FailsToRead (error.Fault fault) reading = reading ≡ Err fault

-- the result is what reading gives, compared as values, or out of memory
abbrev pub ReadsTo : {X A : Type 0} → (X → A) → Result X ReadError → Result A StreamFault → Type 0
ReadsTo view (Ok found) reading = reading ≡ Ok (view found)
ReadsTo view (Err problem) reading = FailsToRead problem reading

-- the line number, counted from 1, of the bytes of a stream of which this many are left
abbrev pub line_at_rest : List ℕ → ℕ → ℕ
line_at_rest stream left = count_by (λ byte. byte == newline) (take (length stream - left) stream) + 1
