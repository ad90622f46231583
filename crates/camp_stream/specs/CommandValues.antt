-- Commands of a stream as values, whose texts are copied out of it.
use Rattle.std.specs.Prelude.{ℕ, List, map, Option, option_map}
use Rattle.std.specs.Borrow.{Bor}
use Rattle.camp_coding.specs.declared.modes.Mode.{Mode}
use Rattle.camp_stream.specs.declared.commands.Blob.{Blob}
use Rattle.camp_stream.specs.declared.commands.Command.{Command}
use Rattle.camp_stream.specs.declared.commands.Command.TheVariants as command
use Rattle.camp_stream.specs.declared.commands.Commit.{Commit}
use Rattle.camp_stream.specs.declared.commands.FileChange.{FileChange}
use Rattle.camp_stream.specs.declared.commands.FileChange.TheVariants as change
use Rattle.camp_stream.specs.declared.commands.Reset.{Reset}
use Rattle.camp_stream.specs.declared.commands.Tag.{Tag}

-- a change of the entries of a commit: sets an entry, deletes a file or folder, or deletes all entries
pub data ChangeValue : Type 0 where
  SetEntry : Mode → (content path : List ℕ) → ChangeValue
  DeleteEntry : List ℕ → ChangeValue
  DeleteEntries : ChangeValue

-- a blob: its mark, its id and its content
pub record BlobValue : Type 0 where
  pub mark : Option (List ℕ)
  pub original_oid : Option (List ℕ)
  pub content : List ℕ

-- a commit
pub record CommitValue : Type 0 where
  pub reference : List ℕ
  pub mark : Option (List ℕ)
  pub original_oid : Option (List ℕ)
  pub author : Option (List ℕ)
  pub committer : List ℕ
  pub encoding : Option (List ℕ)
  pub message : List ℕ
  pub from : Option (List ℕ)
  pub merges : List (List ℕ)
  pub changes : List ChangeValue

-- a reset: a reference is set to a commit, or begins anew
pub record ResetValue : Type 0 where
  pub reference : List ℕ
  pub from : Option (List ℕ)

-- a tag with a message
pub record TagValue : Type 0 where
  pub name : List ℕ
  pub mark : Option (List ℕ)
  pub from : List ℕ
  pub original_oid : Option (List ℕ)
  pub tagger : Option (List ℕ)
  pub message : List ℕ

-- a command
pub data CommandValue : Type 0 where
  BlobCommand : BlobValue → CommandValue
  CommitCommand : CommitValue → CommandValue
  ResetCommand : ResetValue → CommandValue
  TagCommand : TagValue → CommandValue
  ProgressCommand : List ℕ → CommandValue
  FeatureCommand : List ℕ → CommandValue
  OptionCommand : List ℕ → CommandValue
  CheckpointCommand : CommandValue
  DoneCommand : CommandValue

-- an optional text of the stream, as a value
abbrev pub text_value : Option (Bor (List ℕ)) → Option (List ℕ)
text_value text = option_map (λ text. text.now) text

-- texts of the stream, as values
abbrev pub text_values : List (Bor (List ℕ)) → List (List ℕ)
text_values texts = map (λ text. text.now) texts

-- a change, as a value
abbrev pub value_of_change : FileChange → ChangeValue
value_of_change (change.Set mode content path) = SetEntry mode content.now path.now
value_of_change (change.Delete path) = DeleteEntry path.now
value_of_change change.DeleteAll = DeleteEntries

-- changes, as values
abbrev pub change_values : List FileChange → List ChangeValue
change_values changes = map value_of_change changes

-- a blob, as a value
abbrev pub value_of_blob : Blob → BlobValue
value_of_blob blob =
    record { mark = text_value blob.mark; original_oid = text_value blob.original_oid; content = blob.content.now }

-- a commit, as a value
abbrev pub value_of_commit : Commit → CommitValue
value_of_commit commit =
    record {
      reference = commit.reference.now;
      mark = text_value commit.mark;
      original_oid = text_value commit.original_oid;
      author = text_value commit.author;
      committer = commit.committer.now;
      encoding = text_value commit.encoding;
      message = commit.message.now;
      from = text_value commit.from;
      merges = text_values commit.merges.items;
      changes = change_values commit.changes.items;
    }

-- a reset, as a value
abbrev pub value_of_reset : Reset → ResetValue
value_of_reset reset = record { reference = reset.reference.now; from = text_value reset.from }

-- a tag, as a value
abbrev pub value_of_tag : Tag → TagValue
value_of_tag tag =
    record {
      name = tag.name.now;
      mark = text_value tag.mark;
      from = tag.from.now;
      original_oid = text_value tag.original_oid;
      tagger = text_value tag.tagger;
      message = tag.message.now;
    }

-- a command, as a value
abbrev pub value_of_command : Command → CommandValue
value_of_command (command.Blob blob) = BlobCommand (value_of_blob blob)
value_of_command (command.Commit commit) = CommitCommand (value_of_commit commit)
value_of_command (command.Reset reset) = ResetCommand (value_of_reset reset)
value_of_command (command.Tag tag) = TagCommand (value_of_tag tag)
value_of_command (command.Progress text) = ProgressCommand text.now
value_of_command (command.Feature text) = FeatureCommand text.now
value_of_command (command.Option text) = OptionCommand text.now
value_of_command command.Checkpoint = CheckpointCommand
value_of_command command.Done = DoneCommand

-- commands, as values
abbrev pub command_values : List Command → List CommandValue
command_values commands = map value_of_command commands
