-- The tree of a commit, given its changes; and the values that its texts give.
use Rattle.std.specs.Prelude.{◌≡◌, ◌≢◌, List, map, None, Result, Ok, Err}
use Rattle.camp_base.specs.Trees.{Files}
use Rattle.camp_coding.specs.declared.trees.EncodeFault.TheVariants as encode
use Rattle.camp_import.specs.CommitTrees.{GivesTree}
use Rattle.camp_import.specs.declared.commit_trees.ChangedTree.{ChangedTree}
use Rattle.camp_import.specs.declared.commit_trees.EntryFault.{EntryFault}
use Rattle.camp_import.specs.declared.entry_changes.EntryChange.{EntryChange}
use Rattle.camp_commits.specs.Objects.{Objects}
use Rattle.camp_commits.specs.Resolving.{Resolution, value_of_entry}
use Rattle.camp_commits.specs.declared.applying.Step.{Step}
use Rattle.camp_commits.specs.declared.commits.ResolvedCommit.{ResolvedCommit}
use Rattle.camp_commits.specs.declared.faults.ApplyError.{ApplyError}
use Rattle.camp_commits.specs.declared.faults.ApplyError.TheVariants as apply
use Rattle.camp_commits.specs.declared.faults.CommandFault.{CommandFault}
use Rattle.camp_commits.specs.declared.faults.CommandFault.TheVariants as fault

-- a resolved commit, as a value
abbrev pub value_of_resolved : ResolvedCommit → Resolution
value_of_resolved commit =
    record {
      id = commit.id;
      mark = commit.mark;
      key = commit.key;
      first = commit.first;
      others = commit.others.items;
      changes = map value_of_entry commit.changes.items;
    }

-- out of memory, or the fault itself if it is another
abbrev pub IsTreeError : EntryFault → ApplyError → Type 0
IsTreeError wrong apply.Memory = Unit {0}
IsTreeError wrong (apply.Fault why) = (why ≡ fault.Entry wrong) × (wrong.why ≢ encode.Memory)

-- camp can't store the tree after one of some changes
abbrev pub CannotStore : Files → List EntryChange → CommandFault → Type 0
CannotStore old changes fault.LongMark = ⊥
CannotStore old changes fault.NoId = ⊥
CannotStore old changes fault.BadId = ⊥
CannotStore old changes fault.BadReference = ⊥
CannotStore old changes fault.UnknownParent = ⊥
CannotStore old changes fault.UnsetReference = ⊥
CannotStore old changes (fault.Change wrong) = ⊥
CannotStore old changes (fault.Entry wrong) = (wrong.why ≢ encode.Memory) × GivesTree old changes (Err wrong)

-- the tree after some changes, or why there is none
abbrev pub MakesTree : Files → List EntryChange → Result ChangedTree ApplyError → Type 0
MakesTree old changes (Ok changed) = GivesTree old changes (Ok changed)
MakesTree old changes (Err apply.Memory) = Unit {0}
MakesTree old changes (Err (apply.Fault why)) = CannotStore old changes why

-- a step that makes no commit, or the same error
abbrev pub without_commit : Result Objects ApplyError → Result Step ApplyError
without_commit (Ok objects) = Ok (record { objects = objects; commit = None })
without_commit (Err why) = Err why
