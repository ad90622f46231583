-- Commands of a stream applied: what each defines, and the commit that it makes with its tree.
use Rattle.std.specs.Prelude.{◌≡◌, ◌≢◌, ◌⊎◌, ℕ, List, map, Option, None, Some, Result, Ok, Err, MatchOption}
use Rattle.std.specs.FinMap.{empty, get}
use Rattle.camp_base.specs.Results.{◌>>=◌}
use Rattle.camp_base.specs.Trees.{Files}
use Rattle.camp_coding.specs.declared.trees.EncodeFault.TheVariants as encode
use Rattle.camp_import.specs.CommitTrees.{GivesTree}
use Rattle.camp_import.specs.declared.commit_trees.EntryFault.{EntryFault}
use Rattle.camp_import.specs.declared.entry_changes.EntryChange.{EntryChange}
use Rattle.camp_stream.specs.CommandValues.{BlobValue, CommandValue, CommitValue, ResetValue, BlobCommand, CheckpointCommand, CommitCommand, DoneCommand, FeatureCommand, OptionCommand, ProgressCommand, ResetCommand, TagCommand}
use Rattle.camp_commits.specs.Objects.{CommitTrees, Objects, with_marked, with_reference, with_tree}
use Rattle.camp_commits.specs.Resolving.{FailsBy, Resolution, commit_named, optional_mark, reference_key, resolution_of, value_of_entry}
use Rattle.camp_commits.specs.declared.applying.Step.{Step}
use Rattle.camp_commits.specs.declared.commits.TreeCommit.{TreeCommit}
use Rattle.camp_commits.specs.declared.faults.ApplyError.{ApplyError}
use Rattle.camp_commits.specs.declared.faults.ApplyError.TheVariants as apply
use Rattle.camp_commits.specs.declared.faults.CommandFault.{CommandFault}
use Rattle.camp_commits.specs.declared.faults.CommandFault.TheVariants as fault
use Rattle.camp_commits.specs.declared.objects.MarkedObject.{MarkedObject}
use Rattle.camp_commits.specs.declared.objects.MarkedObject.TheVariants.{Blob, Commit}
use Rattle.camp_commits.specs.declared.objects.ReferencePosition.{ReferencePosition}
use Rattle.camp_commits.specs.declared.objects.ReferencePosition.TheVariants.{Unborn, At}

-- a tree that was found, else the empty one
abbrev pub tree_or_empty : Option Files → Files
tree_or_empty None = empty
tree_or_empty (Some tree) = tree

-- the tree of a commit that is known; the empty tree for none
abbrev pub tree_of_commit : CommitTrees → Option (List ℕ) → Files
tree_of_commit trees None = empty
tree_of_commit trees (Some id) = tree_or_empty (get trees id)

-- the definitions with the object of one more mark, if there is a mark
abbrev pub marked_if : Objects → Option (List ℕ) → MarkedObject → Objects
marked_if objects None object = objects
marked_if objects (Some mark) object = with_marked objects mark object

-- what is defined after a blob
abbrev pub after_blob : Objects → BlobValue → Result Objects CommandFault
after_blob objects blob = optional_mark blob.mark >>= λ mark. Ok (marked_if objects mark (Blob blob.content))

-- the position at which a reset sets its reference
abbrev pub reset_position : Objects → Option (List ℕ) → Result ReferencePosition CommandFault
reset_position objects None = Ok Unborn
reset_position objects (Some text) = commit_named objects text >>= λ id. Ok (At id)

-- what is defined after a reset
unfoldable pub after_reset : Objects → ResetValue → Result Objects CommandFault
after_reset objects reset = do
  key ← reference_key reset.reference
  position ← reset_position objects reset.from
  Ok (with_reference objects key position)

-- what is defined after a commit: its tree, its reference, and its mark if it has one
abbrev pub after_commit : Objects → Resolution → Files → Objects
after_commit objects commit tree =
    marked_if (with_reference (with_tree objects commit.id tree) commit.key (At commit.id)) commit.mark (Commit commit.id)

-- changes of entries with the paths and contents of a commit's changes
pub record ResolvesChanges (objects : Objects) (commit : CommitValue) (resolution : Resolution) (changes : List EntryChange) : Type 0 where
  pub resolves : resolution_of objects commit ≡ Ok resolution
  pub are : map value_of_entry changes ≡ resolution.changes

-- a command makes a commit: with the parents that it names, and the tree that its changes lead to from that of its
-- first parent
pub record MakesCommit (objects : Objects) (commit : CommitValue) (made : TreeCommit) (new : Objects) : Type 0 where
  pub resolution : Resolution
  pub changes : List EntryChange
  pub resolved : ResolvesChanges objects commit resolution changes
  pub id : made.id ≡ resolution.id
  pub first : made.first ≡ resolution.first
  pub others : made.others.items ≡ resolution.others
  pub tree : GivesTree (tree_of_commit objects.trees resolution.first) changes (Ok made.changed)
  pub becomes : new ≡ after_commit objects resolution made.changed.tree

-- camp can't store the tree after one of the changes of a commit
pub record CannotMakeTree (objects : Objects) (commit : CommitValue) (fault : EntryFault) : Type 0 where
  pub resolution : Resolution
  pub changes : List EntryChange
  pub resolved : ResolvesChanges objects commit resolution changes
  pub gives : GivesTree (tree_of_commit objects.trees resolution.first) changes (Err fault)

-- a fault of the tree, and not of the texts; out of memory is none
abbrev pub IsFaultOfTree : Objects → CommitValue → CommandFault → Type 0
IsFaultOfTree objects commit fault.LongMark = ⊥
IsFaultOfTree objects commit fault.NoId = ⊥
IsFaultOfTree objects commit fault.BadId = ⊥
IsFaultOfTree objects commit fault.BadReference = ⊥
IsFaultOfTree objects commit fault.UnknownParent = ⊥
IsFaultOfTree objects commit fault.UnsetReference = ⊥
IsFaultOfTree objects commit (fault.Change wrong) = ⊥
IsFaultOfTree objects commit (fault.Entry wrong) = (wrong.why ≢ encode.Memory) × CannotMakeTree objects commit wrong

-- an error: out of memory, the first fault of the texts, or a tree that camp can't store
abbrev pub FailsToCommit : Objects → CommitValue → ApplyError → Type 0
FailsToCommit objects commit apply.Memory = Unit {0}
FailsToCommit objects commit (apply.Fault why) = (resolution_of objects commit ≡ Err why) ⊎ IsFaultOfTree objects commit why

-- the result of a commit
abbrev pub AppliesCommit : Objects → CommitValue → Result Step ApplyError → Type 0
AppliesCommit objects commit (Ok step) = MatchOption step.commit ⊥ (λ made. MakesCommit objects commit made step.objects)
AppliesCommit objects commit (Err why) = FailsToCommit objects commit why

-- the result of a command that makes no commit: what is defined after it, or its fault
abbrev pub StepsWithoutCommit : Result Objects CommandFault → Result Step ApplyError → Type 0
StepsWithoutCommit reading (Ok step) = (reading ≡ Ok step.objects) × (step.commit ≡ None)
StepsWithoutCommit reading (Err why) = FailsBy why reading

-- the result of a command
abbrev pub AppliesCommand : Objects → CommandValue → Result Step ApplyError → Type 0
AppliesCommand objects (BlobCommand blob) result = StepsWithoutCommit (after_blob objects blob) result
AppliesCommand objects (CommitCommand commit) result = AppliesCommit objects commit result
AppliesCommand objects (ResetCommand reset) result = StepsWithoutCommit (after_reset objects reset) result
AppliesCommand objects (TagCommand tag) result = StepsWithoutCommit (Ok objects) result
AppliesCommand objects (ProgressCommand text) result = StepsWithoutCommit (Ok objects) result
AppliesCommand objects (FeatureCommand text) result = StepsWithoutCommit (Ok objects) result
AppliesCommand objects (OptionCommand text) result = StepsWithoutCommit (Ok objects) result
AppliesCommand objects CheckpointCommand result = StepsWithoutCommit (Ok objects) result
AppliesCommand objects DoneCommand result = StepsWithoutCommit (Ok objects) result
