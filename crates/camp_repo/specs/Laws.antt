-- The laws of calls on a repository.
use Rattle.std.specs.Prelude.{◌≡◌, ◌≢◌, ℕ, ◌+◌, List, [], ◌∷◌, ◌++◌, length, Option, Some, filter}
use Rattle.camp_base.specs.Trees.{Files}
use Rattle.camp_prim.specs.declared.primitives.Primitive.{Primitive}
use Rattle.camp_catch.specs.declared.catches.Catch.{Catch}
use Rattle.camp_branch.specs.Branches.{LeadsTo, is_among, names_of, recorded}
use Rattle.camp_branch.specs.Laws.{AppliesEach}
use Rattle.camp_branch.specs.Obliterating.{ObliterateGives, other_names}
use Rattle.camp_branch.specs.Pulling.{PullGives}
use Rattle.camp_branch.specs.Conflicting.{AreConflicts}
use Rattle.camp_call.specs.declared.calls.Call.{Call}
use Rattle.camp_call.specs.declared.calls.Call.TheVariants as call
use Rattle.camp_call.specs.declared.replies.Reply.TheVariants as reply
use Rattle.camp_object.specs.Histories.{replay}
use Rattle.camp_object.specs.Objects as object
use Rattle.camp_object.specs.declared.objects.Decided.TheVariants.{Next, Answer}
use Rattle.camp_repo.specs.Lawful.{IsLawfulState, names_of_branches}
use Rattle.camp_repo.specs.Limits.{Bounds}
use Rattle.camp_repo.specs.Objects.{repository_within}
use Rattle.camp_repo.specs.Outcomes.{conflicts_of, obliterated, pulled}
use Rattle.camp_repo.specs.States.{Contents, catches_of, new_within, tree_of}
use Rattle.camp_repo.specs.Steps.{listed, step, wanted}

-- the branch of a name has these catches
abbrev pub Has : Contents → List ℕ → List Catch → Type 0
Has state branch catches = catches_of state.branches branch ≡ Some catches

-- one more call is counted, the limits stay, and only this branch changes; none appears or disappears
pub record ChangesOne (branch : List ℕ) (old new : Contents) : Type 0 where
  pub counted : new.count ≡ old.count + 1
  pub limits : new.limits ≡ old.limits
  pub names : names_of_branches new.branches ≡ names_of_branches old.branches
  pub others : (other : List ℕ) → other ≢ branch → catches_of new.branches other ≡ catches_of old.branches other

-- a new branch is added at the end, with the catches of another; one more call is counted, and the limits stay
pub record Copies (new_branch from : List ℕ) (old new : Contents) : Type 0 where
  pub counted : new.count ≡ old.count + 1
  pub limits : new.limits ≡ old.limits
  pub catches : List Catch
  pub was : Has old from catches
  pub becomes : new.branches ≡ old.branches ++ (new_branch, catches) ∷ []

-- a patch of these changes is appended to a branch; the changes, in order, lead from the tree of the branch to its next
-- tree
pub record Records (branch name : List ℕ) (changes : List Primitive) (old new : Contents) : Type 0 where
  pub changes_one : ChangesOne branch old new
  pub catches : List Catch
  pub was : Has old branch catches
  pub becomes : Has new branch (catches ++ recorded name 1 changes)
  pub tree : Files
  pub next_tree : Files
  pub leads : LeadsTo catches tree
  pub applies : AppliesEach changes tree next_tree

-- further catches are appended to a branch; its patches are its old ones followed by the wanted ones, in the order of
-- the other branch
pub record Pulls (from to : List ℕ) (names : Option (List (List ℕ))) (old new : Contents) : Type 0 where
  pub changes_one : ChangesOne to old new
  pub theirs : List Catch
  pub ours : List Catch
  pub taken : List Catch
  pub from_has : Has old from theirs
  pub to_has : Has old to ours
  pub becomes : Has new to (ours ++ taken)
  pub named :
      names_of (ours ++ taken) ≡
      names_of ours ++ filter (is_among (wanted ours (listed theirs names))) (names_of theirs)

-- a branch keeps its other patches, in their order
pub record Obliterates (branch : List ℕ) (names : List (List ℕ)) (old new : Contents) : Type 0 where
  pub changes_one : ChangesOne branch old new
  pub catches : List Catch
  pub left : List Catch
  pub was : Has old branch catches
  pub becomes : Has new branch left
  pub named : names_of left ≡ other_names catches names

-- the effect of each accepted call; a question is never accepted
abbrev pub Effect : Call → Contents → Contents → Type 0
Effect (call.Branch new_branch from) old new = Copies new_branch from old new
Effect (call.Record branch name changes) old new = Records branch name changes old new
Effect (call.Pull from to names) old new = Pulls from to names old new
Effect (call.Obliterate branch names) old new = Obliterates branch names old new
Effect (call.Tree branch) old new = ⊥
Effect (call.Conflicts branch) old new = ⊥
Effect (call.Names branch) old new = ⊥

-- each accepted call has its effect
abbrev pub AcceptedCallsHaveEffect : Type 0
AcceptedCallsHaveEffect =
    (state : Contents) (call : Call) (next : Contents) → IsLawfulState state → step state call ≡ Next next →
    Effect call state next

-- a new repository is lawful, whatever its limits
abbrev pub InitialIsLawful : Type 0
InitialIsLawful = (limits : Bounds) → IsLawfulState (new_within limits)

-- from a lawful state each accepted call leads to a lawful one
abbrev pub StepsKeepLawful : Type 0
StepsKeepLawful =
    (state : Contents) (call : Call) (next : Contents) → IsLawfulState state → step state call ≡ Next next →
    IsLawfulState next

-- each branch of a lawful state has a tree, to which its catches lead, and a question for it is answered with it; so no
-- record is refused because there is no tree
abbrev pub TreesAreAnswered : Type 0
TreesAreAnswered =
    (state : Contents) (branch : List ℕ) (catches : List Catch) → IsLawfulState state → Has state branch catches →
    (tree : Files) × LeadsTo catches tree × (tree_of catches ≡ Some tree)
    × (step state (call.Tree branch) ≡ Answer (reply.Tree tree))

-- every legal history leads to a lawful state, whatever the limits
abbrev pub HistoriesAreLawful : Type 0
HistoriesAreLawful =
    (limits : Bounds) (history : List (ℕ × Call)) (state : Contents) → replay (repository_within limits) history ≡ Some state →
    IsLawfulState state

-- after a legal history each branch has a tree: the effects of its catches, in order, applied to the empty tree; a
-- question for the tree is answered with it
abbrev pub HistoriesGiveTrees : Type 0
HistoriesGiveTrees =
    (limits : Bounds) (history : List (ℕ × Call)) (state : Contents) (branch : List ℕ) (catches : List Catch)
    → replay (repository_within limits) history ≡ Some state → Has state branch catches →
    (tree : Files) × LeadsTo catches tree × (tree_of catches ≡ Some tree)
    × (step state (call.Tree branch) ≡ Answer (reply.Tree tree))

-- a state counts the calls of the history that leads to it, so the number in the reply to an accepted call is its
-- position
abbrev pub HistoriesAreCounted : Type 0
HistoriesAreCounted =
    (limits : Bounds) (history : List (ℕ × Call)) (state : Contents) → replay (repository_within limits) history ≡ Some state →
    state.count ≡ length history

-- an accepted call keeps the limits
abbrev pub StepsKeepLimits : Type 0
StepsKeepLimits = (state : Contents) (call : Call) (next : Contents) → step state call ≡ Next next → next.limits ≡ state.limits

-- after a legal history the limits are those of a new repository
abbrev pub HistoriesKeepLimits : Type 0
HistoriesKeepLimits =
    (limits : Bounds) (history : List (ℕ × Call)) (state : Contents) → replay (repository_within limits) history ≡ Some state →
    state.limits ≡ limits

-- the results of a pull, of an obliteration and of a question for conflicts are those of the definitions of branches
pub record OutcomesAreDefined : Type 0 where
  pub pulls : (from to : List Catch) (wanted : List (List ℕ)) → PullGives from to wanted (pulled from to wanted)
  pub obliterates : (branch : List Catch) (names : List (List ℕ))
      → ObliterateGives branch names (obliterated branch names)
  pub conflicts : (branch : List Catch) → AreConflicts branch (conflicts_of branch)

-- a repository is an object, whatever its limits
abbrev pub RepositoryIsLawful : Type 0
RepositoryIsLawful = (limits : Bounds) → object.IsLawfulObject (repository_within limits)
