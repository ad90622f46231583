-- Commands as bytes of a stream.
use Rattle.std.specs.Prelude.{◌≡◌, ℕ, List, [], ◌∷◌, ◌++◌, Option, None, Some, IfSome, Ok}
use Rattle.std.specs.List.{AllByRecursion, flat_map}
use Rattle.camp_base.specs.Signs.{newline}
use Rattle.camp_stream.specs.CommandValues.{BlobValue, ChangeValue, CommandValue, CommitValue, ResetValue, TagValue, BlobCommand, CheckpointCommand, CommitCommand, DeleteEntries, DeleteEntry, DoneCommand, FeatureCommand, OptionCommand, ProgressCommand, ResetCommand, SetEntry, TagCommand}
use Rattle.camp_stream.specs.Commands.{command_at, stream_at, unless_done}
use Rattle.camp_stream.specs.StreamItems.{IsWritable, item_text}
use Rattle.camp_stream.specs.StreamValues.{ItemValue, Bare, Data, Delete, Mark, Modify, Text}
use Rattle.camp_stream.specs.declared.items.BareItem.TheVariants.{Blob, Checkpoint, DeleteAll, Done}
use Rattle.camp_stream.specs.declared.items.TextItem.TheVariants as text

-- the bytes of an optional item
abbrev pub optional_item : (List ℕ → ItemValue) → Option (List ℕ) → List ℕ
optional_item item None = []
optional_item item (Some line) = item_text (item line)

-- the bytes of data and of the empty line after it
abbrev pub data_item_bytes : List ℕ → List ℕ
data_item_bytes bytes = item_text (Data bytes) ++ newline ∷ []

-- the item that represents a change
abbrev pub change_item : ChangeValue → ItemValue
change_item (SetEntry mode content path) = Modify mode content path
change_item (DeleteEntry path) = Delete path
change_item DeleteEntries = Bare DeleteAll

-- the bytes of a change
abbrev pub file_change_bytes : ChangeValue → List ℕ
file_change_bytes change = item_text (change_item change)

-- the bytes of a merge
abbrev pub merge_text : List ℕ → List ℕ
merge_text parent = item_text (Text text.Merge parent)

-- the bytes of a content
unfoldable pub blob_text : BlobValue → List ℕ
blob_text blob =
    item_text (Bare Blob) ++ optional_item Mark blob.mark ++ optional_item (Text text.OriginalOid) blob.original_oid ++ data_item_bytes blob.content

-- the bytes of the items that describe a commit
unfoldable pub description_text : CommitValue → List ℕ
description_text commit =
    optional_item Mark commit.mark ++ optional_item (Text text.OriginalOid) commit.original_oid
    ++ optional_item (Text text.Author) commit.author ++ item_text (Text text.Committer commit.committer)
    ++ optional_item (Text text.Encoding) commit.encoding ++ data_item_bytes commit.message

-- the bytes of the parents and the changes of a commit, and of the empty line after them
unfoldable pub contents_text : CommitValue → List ℕ
contents_text commit =
    optional_item (Text text.From) commit.from ++ flat_map merge_text commit.merges ++ flat_map file_change_bytes commit.changes ++ newline ∷ []

-- the bytes of a commit
unfoldable pub commit_text : CommitValue → List ℕ
commit_text commit = item_text (Text text.Commit commit.reference) ++ description_text commit ++ contents_text commit

-- the bytes of a reset and of the empty line after it
unfoldable pub reset_text : ResetValue → List ℕ
reset_text reset = item_text (Text text.Reset reset.reference) ++ optional_item (Text text.From) reset.from ++ newline ∷ []

-- the bytes of a tag
unfoldable pub tag_text : TagValue → List ℕ
tag_text tag =
    item_text (Text text.Tag tag.name) ++ optional_item Mark tag.mark ++ item_text (Text text.From tag.from)
    ++ optional_item (Text text.OriginalOid) tag.original_oid ++ optional_item (Text text.Tagger) tag.tagger ++ data_item_bytes tag.message

-- the bytes of a command
abbrev pub stream_command_bytes : CommandValue → List ℕ
stream_command_bytes (BlobCommand blob) = blob_text blob
stream_command_bytes (CommitCommand commit) = commit_text commit
stream_command_bytes (ResetCommand reset) = reset_text reset
stream_command_bytes (TagCommand tag) = tag_text tag
stream_command_bytes (ProgressCommand line) = item_text (Text text.Progress line) ++ newline ∷ []
stream_command_bytes (FeatureCommand line) = item_text (Text text.Feature line)
stream_command_bytes (OptionCommand line) = item_text (Text text.Option line)
stream_command_bytes CheckpointCommand = item_text (Bare Checkpoint) ++ newline ∷ []
stream_command_bytes DoneCommand = item_text (Bare Done)

-- an optional item is absent or can be written
abbrev pub IsWritableIfAny : (List ℕ → ItemValue) → Option (List ℕ) → Type 0
IsWritableIfAny item line = IfSome line (λ line. IsWritable (item line))

-- a content can be written
pub record IsWritableBlob (blob : BlobValue) : Type 0 where
  pub mark : IsWritableIfAny Mark blob.mark
  pub original_oid : IsWritableIfAny (Text text.OriginalOid) blob.original_oid
  pub content : IsWritable (Data blob.content)

-- a commit can be written
pub record IsWritableCommit (commit : CommitValue) : Type 0 where
  pub reference : IsWritable (Text text.Commit commit.reference)
  pub mark : IsWritableIfAny Mark commit.mark
  pub original_oid : IsWritableIfAny (Text text.OriginalOid) commit.original_oid
  pub author : IsWritableIfAny (Text text.Author) commit.author
  pub committer : IsWritable (Text text.Committer commit.committer)
  pub encoding : IsWritableIfAny (Text text.Encoding) commit.encoding
  pub message : IsWritable (Data commit.message)
  pub from : IsWritableIfAny (Text text.From) commit.from
  pub merges : AllByRecursion (λ parent. IsWritable (Text text.Merge parent)) commit.merges
  pub changes : AllByRecursion (λ change. IsWritable (change_item change)) commit.changes

-- a reset can be written
pub record IsWritableReset (reset : ResetValue) : Type 0 where
  pub reference : IsWritable (Text text.Reset reset.reference)
  pub from : IsWritableIfAny (Text text.From) reset.from

-- a tag can be written
pub record IsWritableTag (tag : TagValue) : Type 0 where
  pub name : IsWritable (Text text.Tag tag.name)
  pub mark : IsWritableIfAny Mark tag.mark
  pub from : IsWritable (Text text.From tag.from)
  pub original_oid : IsWritableIfAny (Text text.OriginalOid) tag.original_oid
  pub tagger : IsWritableIfAny (Text text.Tagger) tag.tagger
  pub message : IsWritable (Data tag.message)

-- a command can be written: each of its texts is on one line and has the form that its item needs
abbrev pub IsWritableCommand : CommandValue → Type 0
IsWritableCommand (BlobCommand blob) = IsWritableBlob blob
IsWritableCommand (CommitCommand commit) = IsWritableCommit commit
IsWritableCommand (ResetCommand reset) = IsWritableReset reset
IsWritableCommand (TagCommand tag) = IsWritableTag tag
IsWritableCommand (ProgressCommand line) = IsWritable (Text text.Progress line)
IsWritableCommand (FeatureCommand line) = IsWritable (Text text.Feature line)
IsWritableCommand (OptionCommand line) = IsWritable (Text text.Option line)
IsWritableCommand CheckpointCommand = Unit {0}
IsWritableCommand DoneCommand = Unit {0}

-- reading the bytes of a command that can be written gives that command, and leaves all bytes after it
abbrev pub CommandsComeBack : Type 0
CommandsComeBack =
    (command : CommandValue) (rest : List ℕ) → IsWritableCommand command
    → command_at (stream_command_bytes command ++ rest) ≡ Ok (command, rest)

-- a command can be written and does not end the stream
abbrev pub IsWritableInside : CommandValue → Type 0
IsWritableInside command = IsWritableCommand command × (unless_done command ≡ Some command)

-- the bytes of commands
abbrev pub stream_text : List CommandValue → List ℕ
stream_text commands = flat_map stream_command_bytes commands

-- reading the bytes of commands that can be written gives these commands
abbrev pub StreamsComeBack : Type 0
StreamsComeBack =
    (commands : List CommandValue) → AllByRecursion IsWritableInside commands → stream_at (stream_text commands) ≡ Ok (commands, [])
