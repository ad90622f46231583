-- Why a command makes no commit, and steps that make none.
use Rattle.std.proofs.Common.{List, Result, Ok, Err, inl, inr, refl, sym, subst}
use Rattle.camp_base.specs.Trees.{Files}
use Rattle.camp_import.specs.CommitTrees.{GivesTree}
use Rattle.camp_import.specs.declared.commit_trees.EntryFault.{EntryFault}
use Rattle.camp_import.specs.declared.entry_changes.EntryChange.{EntryChange}
use Rattle.camp_stream.specs.CommandValues.{CommitValue}
use Rattle.camp_commits.specs.Applying.{FailsToCommit, IsFaultOfTree, ResolvesChanges, StepsWithoutCommit, tree_of_commit}
use Rattle.camp_commits.specs.Inside.Making.{IsTreeError, MakesTree, without_commit}
use Rattle.camp_commits.specs.Objects.{Objects}
use Rattle.camp_commits.specs.Resolving.{FailsBy, Resolution, ResolvesTo, resolution_of}
use Rattle.camp_commits.specs.declared.faults.ApplyError.{ApplyError}
use Rattle.camp_commits.specs.declared.faults.ApplyError.TheVariants as apply
use Rattle.camp_commits.specs.declared.faults.CommandFault.{CommandFault}
use Rattle.camp_commits.specs.declared.faults.CommandFault.TheVariants as fault

-- the texts of a commit have a fault
pub texts_fail : (objects : Objects) (commit : CommitValue) (why : ApplyError) → FailsBy why (resolution_of objects commit) → FailsToCommit objects commit why
texts_fail objects commit apply.Memory fails = tt
texts_fail objects commit (apply.Fault why) fails = inl fails

-- the tree of a commit can't be made
pub tree_fails : (objects : Objects) (commit : CommitValue) (resolution : Resolution) (changes : List EntryChange) (why : ApplyError) → ResolvesChanges objects commit resolution changes → MakesTree (tree_of_commit objects.trees resolution.first) changes (Err why) → FailsToCommit objects commit why
tree_fails objects commit resolution changes apply.Memory resolved makes = tt
tree_fails objects commit resolution changes (apply.Fault why) resolved makes = inr (by_fault why makes)
  where
    by_fault : (why : CommandFault) → MakesTree (tree_of_commit objects.trees resolution.first) changes (Err (apply.Fault why)) → IsFaultOfTree objects commit why
    by_fault fault.LongMark is = is
    by_fault fault.NoId is = is
    by_fault fault.BadId is = is
    by_fault fault.BadReference is = is
    by_fault fault.UnknownParent is = is
    by_fault fault.UnsetReference is = is
    by_fault (fault.Change wrong) is = is
    by_fault (fault.Entry wrong) is = (is.0, record { resolution = resolution; changes = changes; resolved = resolved; gives = is.1 })

-- camp can't store the tree after some change
pub cannot_store : (old : Files) (changes : List EntryChange) (wrong : EntryFault) (why : ApplyError) → GivesTree old changes (Err wrong) → IsTreeError wrong why → MakesTree old changes (Err why)
cannot_store old changes wrong apply.Memory gives is = tt
cannot_store old changes wrong (apply.Fault why) gives is =
    subst (λ (f : CommandFault). MakesTree old changes (Err (apply.Fault f))) (sym is.0) (is.1, gives)

-- a step that makes no commit
pub steps_without : (reading : Result Objects CommandFault) (after : Result Objects ApplyError) → ResolvesTo (λ (new : Objects). new) after reading → StepsWithoutCommit reading (without_commit after)
steps_without reading (Ok objects) is = (is, refl)
steps_without reading (Err why) is = is
