-- The decision on a call. Each kind of call has tests, made in a given order; the first that fails decides.
use Rattle.std.specs.Prelude.{ℕ, ◌+◌, Bool, true, false, not, ◌&&◌, ◌||◌, nat_le, nat_lt, if◌then◌else◌, List, [], ◌∷◌, ◌++◌}
use Rattle.std.specs.Prelude.{length, filter, Option, None, Some, Result, Ok, Err, bytes_eq, is_some}
use Rattle.std.specs.Option.{option_map_or}
use Rattle.std.specs.List.{list_any}
use Rattle.std.specs.FinMap.{get}
use Rattle.camp_base.specs.Limits.{most_changes}
use Rattle.camp_base.specs.Trees.{Files}
use Rattle.camp_prim.specs.Applied.{applied}
use Rattle.camp_prim.specs.Commuting.{path_of}
use Rattle.camp_prim.specs.declared.primitives.Primitive.{Primitive}
use Rattle.camp_prim.specs.declared.primitives.Primitive.TheVariants.{Add, Remove, Hunk}
use Rattle.camp_catch.specs.declared.catches.Catch.{Catch}
pub use Rattle.camp_branch.specs.Branches.{first_lacked}
use Rattle.camp_branch.specs.Branches.{has_patch, is_among, name_of, names_of, recorded}
use Rattle.camp_branch.specs.Pulling.{Outcome}
use Rattle.camp_branch.specs.declared.faults.Blocked.{Blocked}
use Rattle.camp_branch.specs.declared.faults.Blocked.TheVariants as blocked
use Rattle.camp_call.specs.declared.calls.Call.{Call}
use Rattle.camp_call.specs.declared.calls.Call.TheVariants as call
use Rattle.camp_call.specs.declared.replies.Reply.{Reply}
use Rattle.camp_call.specs.declared.replies.Reply.TheVariants as reply
use Rattle.camp_call.specs.declared.replies.Refusal.{Refusal}
use Rattle.camp_call.specs.declared.replies.Refusal.TheVariants.{NoBranch, BranchExists, PatchExists, NoPatch}
use Rattle.camp_call.specs.declared.replies.Refusal.TheVariants.{NothingToDo, TooLarge, DoesNotApply, Depends}
use Rattle.camp_call.specs.declared.replies.Refusal.TheVariants.{Diverged, NoMerge, SameBranch}
use Rattle.camp_object.specs.declared.objects.Decided.{Decided}
use Rattle.camp_object.specs.declared.objects.Decided.TheVariants.{Next, Answer}
use Rattle.camp_repo.specs.Outcomes.{conflicts_of, obliterated, pulled}
use Rattle.camp_repo.specs.States.{Branches, Contents, after, catches_of, stands, tree_of, with_catches}

-- a decision on a call: the next state, or a reply
abbrev pub Decision : Type 0
Decision = Decided Contents Reply

-- a refusal, which changes nothing
abbrev pub refused : Refusal → Decision
refused refusal = Answer (reply.Refused refusal)

-- the decision that accepts one more call, after which these are the branches
abbrev pub accepted : Contents → Branches → Decision
accepted state branches = Next (after state branches)

-- the decision made from the catches of the branch of a name; a refusal if there is no such branch
abbrev pub with_branch : Contents → List ℕ → (List Catch → Decision) → Decision
with_branch state name goes_on = option_map_or goes_on (catches_of state.branches name) (refused (NoBranch name))

-- the given refusal if the test is true, else the next decision
abbrev pub refused_if : Bool → Refusal → Decision → Decision
refused_if fails refusal goes_on = if fails then refused refusal else goes_on

-- the refusal that says why a branch can't be changed
abbrev pub refusal_of : Blocked → Refusal
refusal_of (blocked.Depends patch on) = Depends patch on
refusal_of (blocked.Diverged name) = Diverged name
refusal_of (blocked.NoMerge left right) = NoMerge left right

-- the decision for an outcome of the branch of a name: a state with the new branch, or a refusal
abbrev pub becomes : Contents → List ℕ → Outcome → Decision
becomes state branch (Ok catches) = accepted state (with_catches state.branches branch catches)
becomes state branch (Err why) = refused (refusal_of why)

-- the decision on copying a branch: if accepted, the copy becomes the last branch, within the limit of branches
abbrev pub step_branch : Contents → List ℕ → List ℕ → Decision
step_branch state new from =
    with_branch state from (λ catches.
    refused_if (is_some (catches_of state.branches new)) (BranchExists new) (
    refused_if (nat_le state.limits.branches (length state.branches)) TooLarge (
    accepted state (state.branches ++ (new, catches) ∷ []))))

-- the most lines of one side of a recorded hunk
abbrev pub longest_side : ℕ
longest_side = 65_535

-- the most lines of a file after a record
abbrev pub longest_file : ℕ
longest_file = 1_000_000

-- a side of a hunk is longer than a record allows
abbrev pub has_long_side : Primitive → Bool
has_long_side (Add path) = false
has_long_side (Remove path) = false
has_long_side (Hunk hunk) = nat_lt longest_side (length hunk.old) || nat_lt longest_side (length hunk.new)

-- the file that a change leaves is longer than a record allows
abbrev pub has_long_file : List ℕ → Files → Bool
has_long_file path tree = option_map_or (λ lines. nat_lt longest_file (length lines)) (get tree path) false

-- the tree after a change, or the refusal if the change does not apply or its file is too long
abbrev pub led_to : Primitive → Option Files → Result Files Refusal
led_to change None = Err DoesNotApply
led_to change (Some tree) = if has_long_file (path_of change) tree then Err TooLarge else Ok tree

-- the next result, made from the tree if there is one, else the refusal
abbrev pub then_from : Result Files Refusal → (Files → Result Files Refusal) → Result Files Refusal
then_from (Ok tree) goes_on = goes_on tree
then_from (Err refusal) goes_on = Err refusal

-- the tree after changes, applied one after the other, or the refusal of the first that fails
abbrev pub changed : List Primitive → Files → Result Files Refusal
changed [] tree = Ok tree
changed (change ∷ changes) tree = then_from (led_to change (applied change tree)) (changed changes)

-- the decision on a record, given the tree that its changes lead to or their refusal
abbrev pub record_leads : Contents → List ℕ → List Catch → Result Files Refusal → Decision
record_leads state branch catches (Ok tree) = accepted state (with_catches state.branches branch catches)
record_leads state branch catches (Err refusal) = refused refusal

-- the number of changes is one that a patch may have: 1 to 64, as in every record that a program can represent
abbrev pub is_patch_sized : List Primitive → Bool
is_patch_sized changes = nat_le 1 (length changes) && nat_le (length changes) most_changes

-- a record is too large for a branch with this limit: the branch would have more catches, a side of a hunk is too long,
-- or the record does not have 1 to 64 changes, which cannot be the case in a program
abbrev pub is_too_large : ℕ → List Catch → List Primitive → Bool
is_too_large most catches changes =
    nat_lt most (length catches + length changes) || (list_any has_long_side changes || not (is_patch_sized changes))

-- the decision on a record: if accepted, the whole patch is appended to a branch, within the limit of catches
abbrev pub step_record : Contents → List ℕ → List ℕ → List Primitive → Decision
step_record state branch name changes =
    with_branch state branch (λ catches.
    refused_if (stands state.branches name) (PatchExists name) (
    refused_if (is_too_large state.limits.catches catches changes) TooLarge (
    option_map_or
    (λ tree. record_leads state branch (catches ++ recorded name 1 changes) (changed changes tree))
    (tree_of catches) (refused DoesNotApply))))

-- the next decision if a branch has all listed patches, else a refusal
abbrev pub with_patches : List Catch → List (List ℕ) → Decision → Decision
with_patches catches names goes_on = option_map_or (λ name. refused (NoPatch name)) (first_lacked catches names) goes_on

-- the listed names or, without a list, the names of all patches of the branch
abbrev pub listed : List Catch → Option (List (List ℕ)) → List (List ℕ)
listed theirs None = names_of theirs
listed theirs (Some names) = names

-- the listed names of which `to` has no patch
abbrev pub wanted : List Catch → List (List ℕ) → List (List ℕ)
wanted ours names = filter (λ name. not (has_patch ours name)) names

-- a list is given and has no name
abbrev pub is_empty : List (List ℕ) → Bool
is_empty [] = true
is_empty (name ∷ names) = false

-- the catches of a branch with these names
abbrev pub catches_named : List (List ℕ) → List Catch → List Catch
catches_named names catches = filter (λ k. is_among names (name_of k)) catches

-- a branch would exceed this limit of catches if it got the catches of another branch that have these names
abbrev pub is_full_with : ℕ → List Catch → List Catch → List (List ℕ) → Bool
is_full_with most ours theirs names = nat_lt most (length ours + length (catches_named names theirs))

-- the decision on a pull of these names into a branch, which refuses what would exceed the limit of catches
abbrev pub pull_wanted : Contents → List ℕ → List Catch → List Catch → List (List ℕ) → Decision
pull_wanted state to theirs ours names =
    refused_if (is_empty names) NothingToDo (
    refused_if (is_full_with state.limits.catches ours theirs names) TooLarge (
    becomes state to (pulled theirs ours names)))

-- the decision on a pull from one branch into another, of the patches that the other lacks: those that are listed or,
-- without a list, all
abbrev pub step_pull : Contents → List ℕ → List ℕ → Option (List (List ℕ)) → Decision
step_pull state from to names =
    with_branch state from (λ theirs.
    with_branch state to (λ ours.
    refused_if (bytes_eq from to) (SameBranch to) (
    with_patches theirs (listed theirs names) (
    pull_wanted state to theirs ours (wanted ours (listed theirs names))))))

-- the decision on removing patches from a branch
abbrev pub step_obliterate : Contents → List ℕ → List (List ℕ) → Decision
step_obliterate state branch names =
    with_branch state branch (λ catches.
    with_patches catches names (
    refused_if (is_empty names) NothingToDo (
    becomes state branch (obliterated catches names))))

-- the decision on a question for the tree of a branch
abbrev pub shown : Option Files → Decision
shown None = refused DoesNotApply
shown (Some tree) = Answer (reply.Tree tree)

-- the decision on a call
abbrev pub step : Contents → Call → Decision
step state (call.Branch new from) = step_branch state new from
step state (call.Record branch name changes) = step_record state branch name changes
step state (call.Pull from to names) = step_pull state from to names
step state (call.Obliterate branch names) = step_obliterate state branch names
step state (call.Tree branch) = with_branch state branch (λ catches. shown (tree_of catches))
step state (call.Conflicts branch) =
    with_branch state branch (λ catches. Answer (reply.Conflicts (conflicts_of catches)))
step state (call.Names branch) = with_branch state branch (λ catches. Answer (reply.Names (names_of catches)))
