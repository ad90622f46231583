-- What callers at the seats of one head conclude.
use Rattle.std.specs.Prelude.{◌≡◌, ℕ, List, [], ◌∷◌, ◌++◌, Option, None, Some, Result, Ok}
use Rattle.camp_base.specs.Trees.{Files}
use Rattle.camp_catch.specs.declared.catches.Catch.{Catch}
use Rattle.camp_branch.specs.Branches.{LeadsTo}
use Rattle.camp_call.specs.declared.calls.Call.{Call}
use Rattle.camp_call.specs.declared.replies.Reply.{Reply}
use Rattle.camp_call.specs.declared.replies.Reply.TheVariants.{Done, Tree}
use Rattle.camp_object.specs.Histories.{replay}
use Rattle.camp_object.specs.declared.faults.Fault.{Fault}
use Rattle.camp_repo.specs.Laws.{Has}
use Rattle.camp_repo.specs.Limits.{Bounds}
use Rattle.camp_repo.specs.Objects.{repository_within}
use Rattle.camp_repo.specs.States.{Contents, catches_of}

-- after a history of a repository with these limits a branch has this tree: the effects of its catches, in order,
-- applied to the empty tree
pub record HistoryHasTree (limits : Bounds) (history : List (ℕ × Call)) (branch : List ℕ) (tree : Files) : Type 0 where
  pub state : Contents
  pub replays : replay (repository_within limits) history ≡ Some state
  pub catches : List Catch
  pub has : Has state branch catches
  pub leads : LeadsTo catches tree

-- after a history of a repository with these limits there is no branch of this name
pub record HistoryLacksBranch (limits : Bounds) (history : List (ℕ × Call)) (branch : List ℕ) : Type 0 where
  pub state : Contents
  pub replays : replay (repository_within limits) history ≡ Some state
  pub lacks : catches_of state.branches branch ≡ None

-- the tree in a reply, if it has one
abbrev pub tree_in : Reply → Option Files
tree_in (Tree tree) = Some tree
tree_in other = None

-- the calls of a caller after a reply: one more if the reply has a number, else the same
abbrev pub AddsIfDone : List Call → Call → Result Reply Fault → List Call → Type 0
AddsIfDone old call (Ok (Done at)) new = new ≡ old ++ call ∷ []
AddsIfDone old call other new = new ≡ old
