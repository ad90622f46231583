-- The laws of questions.
use Rattle.std.specs.Prelude.{◌≡◌, ◌≢◌, ◌⊎◌, ◌↔◌, ◌≤◌, ℕ, ◌+◌, ◌-◌, true, false, List, [], ◌∷◌, ◌++◌, map, length, None, Some, Ok, Err}
use Rattle.std.specs.Prelude.{Contains}
use Rattle.std.specs.FinMap.{get}
use Rattle.std.specs.List.{All, AllByRecursion, AllZip, flat_map}
use Rattle.camp_base.specs.Trees.{Files, Lines}
use Rattle.camp_prim.specs.Effect.{Applies, flipped}
use Rattle.camp_prim.specs.Hunks.{Edit}
use Rattle.camp_prim.specs.Labels.{SameKey}
use Rattle.camp_prim.specs.Commuting.{path_of}
use Rattle.camp_prim.specs.declared.labels.Key.{Key}
use Rattle.camp_prim.specs.declared.named.Named.{Named}
use Rattle.camp_prim.specs.declared.primitives.Primitive.{Primitive}
use Rattle.camp_prim.specs.declared.primitives.Primitive.TheVariants.{Add, Remove, Hunk}
use Rattle.camp_seq.specs.Equivalence.{◌~◌}
use Rattle.camp_seq.specs.Room.{HasRoom}
use Rattle.camp_catch.specs.Arranging.{Align}
use Rattle.camp_catch.specs.Catches.{effect_of}
use Rattle.camp_catch.specs.declared.catches.Catch.{Catch}
use Rattle.camp_catch.specs.declared.catches.Catch.TheVariants.{Plain}
use Rattle.camp_branch.specs.Branches.{first_lacked, IsLawfulBranch as IsLawfulBranch, LeadsTo, has_patch, is_among, names_of, recorded}
use Rattle.camp_branch.specs.Laws.{AppliesEach, ExactlyOne}
use Rattle.camp_branch.specs.Pulling.{PullGives}
use Rattle.camp_branch.specs.declared.faults.Blocked.TheVariants as blocked
use Rattle.camp_call.specs.declared.calls.Call.{Call}
use Rattle.camp_call.specs.declared.calls.Call.TheVariants as call
use Rattle.camp_call.specs.declared.replies.Refusal.TheVariants.{Depends, NoPatch, NothingToDo, TooLarge}
use Rattle.camp_call.specs.declared.replies.Reply.TheVariants as reply
use Rattle.camp_object.specs.declared.objects.Decided.TheVariants.{Next}
use Rattle.camp_repo.specs.Lawful.{IsLawfulState}
use Rattle.camp_repo.specs.Laws.{Has}
use Rattle.camp_repo.specs.Objects.{replies_to, reply_of, state_after_decision}
use Rattle.camp_repo.specs.States.{Contents, stands}
use Rattle.camp_repo.specs.Steps.{has_long_file, is_too_large, refused, step}
use Rattle.camp_questions.specs.Along.{AreAlong}
use Rattle.camp_questions.specs.Annotations.{Annotates, Known, known_after_hunk, names_of_lines}
use Rattle.camp_questions.specs.CommonLines.{added_by}
use Rattle.camp_questions.specs.Dependencies.{DependsOnTakenOut, CanBeTakenOut, CanMoveToFront, HeldBy, Needs, AreBlockedBy}
use Rattle.camp_questions.specs.Differences.{missing_in}
use Rattle.camp_questions.specs.Foresight.{AreUnresolvedAt, Foresees, pairs_without}
use Rattle.camp_questions.specs.Graphs.{Drawn, IsGraph}
use Rattle.camp_questions.specs.OpenConflicts.{AreUnresolved}
use Rattle.camp_questions.specs.Pictures.{is_one_or_neighbour}
use Rattle.camp_questions.specs.Showing.{changes_in, patch_in}
use Rattle.camp_questions.specs.Sides.{IsSideIn}
use Rattle.camp_questions.specs.declared.annotations.Annotated.{Annotated}
use Rattle.camp_questions.specs.declared.annotations.Annotated.TheVariants.{File}
use Rattle.camp_questions.specs.declared.foresight.Foreseen.{Foreseen}
use Rattle.camp_questions.specs.declared.foresight.BranchState.{BranchState}
use Rattle.camp_questions.specs.declared.graphs.Node.{Node}

-- an accepted pull without names appends to a branch the patches that it lacks, in this order; if it lacks none, the
-- pull is refused as having nothing to do
pub record MissingIsPulled : Type 0 where
  pub comes :
      (state next : Contents) (from to : List ℕ) (theirs ours new : List Catch) → IsLawfulState state →
      Has state from theirs → Has state to ours → step state (call.Pull from to None) ≡ Next next →
      Has next to new → names_of new ≡ names_of ours ++ missing_in ours theirs
  pub nothing :
      (state : Contents) (from to : List ℕ) (theirs ours : List Catch) →
      Has state from theirs → Has state to ours → from ≢ to → missing_in ours theirs ≡ [] →
      step state (call.Pull from to None) ≡ refused NothingToDo

-- all names of the first list are in the second
abbrev pub AreAmong : List (List ℕ) → List (List ℕ) → Type 0
AreAmong names others = (name : List ℕ) → is_among names name ≡ true → is_among others name ≡ true

-- a name was added between the first names and the grown ones: `Stops` relates it to some names that include the first
-- ones and are included in the grown ones
abbrev pub WasAddedOnWay : (List (List ℕ) → List ℕ → Type 0) → List (List ℕ) → List (List ℕ) → List ℕ → Type 0
WasAddedOnWay Stops names grown name =
    (between : List (List ℕ)) × AreAmong names between × AreAmong between grown × Stops between name

-- the grown names contain the first ones, and each further name was added between the two
pub record GrewFrom (Stops : List (List ℕ) → List ℕ → Type 0) (names grown : List (List ℕ)) : Type 0 where
  pub has : AreAmong names grown
  pub met :
      (name : List ℕ) → is_among grown name ≡ true → is_among names name ≡ false → WasAddedOnWay Stops names grown name

-- the dependencies of patches can be moved to the front of their branch; they include the patches, and each further one
-- blocks some names between the patches and all dependencies
abbrev pub NeedsComeFirst : Type 0
NeedsComeFirst =
    (branch : List Catch) (names needed : List (List ℕ)) → first_lacked branch names ≡ None → Needs branch names needed →
    CanMoveToFront branch needed × GrewFrom (AreBlockedBy branch) names needed

-- each list of names has exactly one list of dependencies
abbrev pub NeedsAreDetermined : Type 0
NeedsAreDetermined = (branch : List Catch) (names : List (List ℕ)) → ExactlyOne (Needs branch names)

-- a branch has plain catches only, and their patches have headroom
pub record IsPlain (branch : List Catch) : Type 0 where
  pub patches : List Named
  pub are : branch ≡ map Plain patches
  pub room : HasRoom patches

-- in a branch of plain catches with headroom, the dependencies of names are in every list that has these names and can
-- be moved to the front
abbrev pub NeedsAreLeast : Type 0
NeedsAreLeast =
    (branch : List Catch) (names needed others : List (List ℕ)) → IsPlain branch → Needs branch names needed →
    AreAmong names others → CanMoveToFront branch others → AreAmong needed others

-- in a branch of plain catches with headroom, the dependents of names are in every list that has these names and can be
-- taken out
abbrev pub HeldIsLeast : Type 0
HeldIsLeast =
    (branch : List Catch) (names held others : List (List ℕ)) → IsPlain branch → HeldBy branch names held →
    AreAmong names others → CanBeTakenOut branch others → AreAmong held others

-- if a branch has plain catches with headroom, and the dependencies of its patches are pulled into a branch that has
-- none of them, the pull is not refused because one of them depends on another patch
abbrev pub NeedsCanBePulled : Type 0
NeedsCanBePulled =
    (from to : List Catch) (names needed : List (List ℕ)) → IsPlain from → first_lacked from names ≡ None →
    Needs from names needed → ((name : List ℕ) → is_among needed name ≡ true → has_patch to name ≡ false) →
    (patch on : List ℕ) → ¬ (PullGives from to needed (Err (blocked.Depends patch on)))

-- in a branch of plain catches with headroom, one patch depends on another exactly if it is a dependent of the other
abbrev pub NeedsAndHeldAreOne : Type 0
NeedsAndHeldAreOne =
    (branch : List Catch) (name other : List ℕ) (needed held : List (List ℕ)) → IsPlain branch →
    has_patch branch name ≡ true → has_patch branch other ≡ true → Needs branch (other ∷ []) needed →
    HeldBy branch (name ∷ []) held → (is_among needed name ≡ true) ↔ (is_among held other ≡ true)

-- an obliteration of patches of a branch together with their dependents is accepted; the dependents include the
-- patches, and each further one depends on one of some names between the patches and all dependents
abbrev pub HeldCanBeTakenOut : Type 0
HeldCanBeTakenOut =
    (state : Contents) (name : List ℕ) (branch : List Catch) (names held : List (List ℕ)) → Has state name branch →
    first_lacked branch names ≡ None → names ≢ [] → HeldBy branch names held →
    ((next : Contents) × (step state (call.Obliterate name held) ≡ Next next)) × GrewFrom (DependsOnTakenOut branch) names held

-- each list of names has exactly one list of dependents
abbrev pub HeldIsDetermined : Type 0
HeldIsDetermined = (branch : List Catch) (names : List (List ℕ)) → ExactlyOne (HeldBy branch names)

-- each line of a file has a name, which is that of a patch of the branch; undoing a hunk gives all lines the names that
-- they had before it
pub record LinesHaveNames : Type 0 where
  pub each :
      (branch : List Catch) (path : List ℕ) (tree : Files) (lines : Lines) → LeadsTo branch tree →
      get tree path ≡ Some lines → length (names_of_lines path branch) ≡ length lines
  pub own :
      (branch : List Catch) (path : List ℕ) → All (λ name. has_patch branch name ≡ true) (names_of_lines path branch)
  pub given_back :
      (name other : List ℕ) (key : Key) (hunk : Edit) (known : Known) →
      hunk.line - 1 + length hunk.old ≤ length known.names →
      (known_after_hunk other key (flipped hunk) (known_after_hunk name key hunk known)).names ≡ known.names

-- a line is added by a hunk of a file, and that hunk is among the changes that a patch has in a branch
pub record IsAddedByPatch (branch : List Catch) (path name line : List ℕ) : Type 0 where
  pub hunk : Edit
  pub change : Contains (patch_in branch name).changes (Hunk hunk)
  pub file : hunk.path ≡ path
  pub brings : Contains (added_by hunk) line

-- a primitive that is a hunk of the same file restores the lines that the given hunk removed
abbrev pub RestoresLines : Edit → Primitive → Type 0
RestoresLines hunk (Add path) = Unit {0}
RestoresLines hunk (Remove path) = Unit {0}
RestoresLines hunk (Hunk other) = other.path ≡ hunk.path → other.new ≡ hunk.old

-- wherever the absolute label of a hunk occurs again in a list, the primitive there restores the lines that the hunk
-- removed
abbrev pub RepeatsRestoreLines : List Named → Type 0
RepeatsRestoreLines [] = Unit {0}
RepeatsRestoreLines (p ∷ s) =
    ((hunk : Edit) → p.prim ≡ Hunk hunk → AllByRecursion (λ q. SameKey p q → RestoresLines hunk q.prim) s)
    × RepeatsRestoreLines s

-- each line in the answer for a path was added by a hunk of the patch whose name it has
abbrev pub EachIsAddedByPatch : List Catch → List ℕ → Type 0
EachIsAddedByPatch branch path =
    (lines : Lines) (names : List (List ℕ)) → Annotates branch path (File lines names) →
    AllZip (IsAddedByPatch branch path) names lines

-- each line was added by the patch whose name it has, if every primitive whose label occurs again in the effects of a
-- branch only restores removed lines; in a lawful branch of plain catches no label occurs again
pub record LinesAreAddedByPatches : Type 0 where
  pub come_again :
      (branch : List Catch) (path : List ℕ) → RepeatsRestoreLines (flat_map effect_of branch) → EachIsAddedByPatch branch path
  pub plain :
      (patches : List Named) (path : List ℕ) → IsLawfulBranch (map Plain patches) → EachIsAddedByPatch (map Plain patches) path

-- two branches give the same answer for each path: the same lines, with the same names
abbrev pub AnnotateAlike : List Catch → List Catch → Type 0
AnnotateAlike branch other =
    (path : List ℕ) (told : Annotated) → Annotates branch path told ↔ Annotates other path told

-- the answer for plain patches does not depend on their order: neighbours may be commuted, and the list put in the
-- order of given labels
pub record OrderKeepsNames : Type 0 where
  pub swapped :
      (patches others : List Named) → patches ~ others → AnnotateAlike (map Plain patches) (map Plain others)
  pub aligned :
      (patches : List Named) (order : List Key) (other : List Catch) → Align order (map Plain patches) other →
      AnnotateAlike (map Plain patches) other

-- in the state after its record, a patch is shown with the changes that were recorded
abbrev pub RecordedIsShown : Type 0
RecordedIsShown =
    (state next : Contents) (branch name : List ℕ) (changes : List Primitive) (catches : List Catch) → IsLawfulState state →
    step state (call.Record branch name changes) ≡ Next next → Has next branch catches →
    patch_in catches name ≡ record { catches = recorded name 1 changes; changes = changes }

-- a patch of a branch depends on another one
abbrev pub NeedsPatch : List Catch → List ℕ → List ℕ → Type 0
NeedsPatch branch name other =
    (other ≢ name) × ((needed : List (List ℕ)) × Needs branch (name ∷ []) needed × (is_among needed other ≡ true))

-- a patch of a branch depends directly on another one: no other dependency of the patch depends on that one
pub record NeedsDirectly (branch : List Catch) (name other : List ℕ) : Type 0 where
  pub needs : NeedsPatch branch name other
  pub none_between : (between : List ℕ) → NeedsPatch branch name between → ¬ (NeedsPatch branch between other)

-- the arrows of a graph lead from each patch to exactly its direct dependencies
abbrev pub ArrowsAreDirectNeeds : Type 0
ArrowsAreDirectNeeds =
    (branch : List Catch) (graph : Drawn) → IsGraph branch graph →
    AllByRecursion (λ node. (other : List ℕ) → (is_among node.needs other ≡ true) ↔ NeedsDirectly branch node.name other)
    graph.patches

-- an arrow of a graph leads from one patch to another
abbrev pub Arrow : Drawn → List ℕ → List ℕ → Type 0
Arrow graph name other =
    (node : Node) × Contains graph.patches node × (node.name ≡ name) × (is_among node.needs other ≡ true)

-- one name comes before another in a list
pub record NameComesBefore (names : List (List ℕ)) (first second : List ℕ) : Type 0 where
  pub before : List (List ℕ)
  pub between : List (List ℕ)
  pub behind : List (List ℕ)
  pub are : names ≡ before ++ first ∷ (between ++ second ∷ behind)

-- in the graph of a lawful branch, arrows lead backwards: each from a patch to one before it
abbrev pub ArrowsLeadBackwards : Type 0
ArrowsLeadBackwards =
    (branch : List Catch) (graph : Drawn) → IsLawfulBranch branch → IsGraph branch graph → (name other : List ℕ) →
    Arrow graph name other → NameComesBefore (names_of branch) other name

-- the patches that are reached along arrows from a patch: itself, and all that are reached from those to which its
-- arrows lead
pub data IsReached : Drawn → List ℕ → List ℕ → Type 0 where
  itself : {graph : Drawn} {name : List ℕ} → IsReached graph name name
  along : {graph : Drawn} {name between other : List ℕ} → Arrow graph name between → IsReached graph between other → IsReached graph name other

-- in the graph of a lawful branch of plain catches with headroom, the dependencies of a patch are the patches reached
-- from it
abbrev pub NeedsAreReached : Type 0
NeedsAreReached =
    (branch : List Catch) (graph : Drawn) (name : List ℕ) (needed : List (List ℕ)) → IsLawfulBranch branch →
    IsPlain branch → IsGraph branch graph → has_patch branch name ≡ true → Needs branch (name ∷ []) needed →
    (other : List ℕ) → (is_among needed other ≡ true) ↔ IsReached graph name other

-- along arrows, a patch is reached from one of these names, or one of these names is reached from it
abbrev pub IsConnected : Drawn → List (List ℕ) → List ℕ → Type 0
IsConnected graph names other =
    (name : List ℕ) × (is_among names name ≡ true) × (IsReached graph name other ⊎ IsReached graph other name)

-- in the graph of a lawful branch, the part that belongs to some patches consists of those reached from one of them
-- and those that reach one
abbrev pub PartsAreReached : Type 0
PartsAreReached =
    (branch : List Catch) (graph : Drawn) (names : List (List ℕ)) → IsLawfulBranch branch → IsGraph branch graph →
    (other : List ℕ) → (is_one_or_neighbour graph.patches names other ≡ true) ↔ IsConnected graph names other

-- the changes of a side apply, one after the other, to the tree of the branch
abbrev pub SidesApply : Type 0
SidesApply =
    (branch : List Catch) (tree : Files) (name : List ℕ) (side : List Named) → LeadsTo branch tree → IsSideIn branch name side →
    (after : Files) × AppliesEach (changes_in side) tree after

-- changes that are applied to a tree one after the other leave no file that is longer than a record allows
abbrev pub KeepFilesShort : List Primitive → Files → Type 0
KeepFilesShort [] tree = Unit {0}
KeepFilesShort (change ∷ changes) tree =
    (next : Files) → Applies change tree next → (has_long_file (path_of change) next ≡ false) × KeepFilesShort changes next

-- a record of the changes of a side, under a name that no branch has, is accepted if the branch and the patch do not
-- get too many changes, and no side of a hunk and no file too many lines; it is refused only as too large
pub record SidesAreAccepted : Type 0 where
  pub within :
      (state : Contents) (branch name new_name : List ℕ) (catches : List Catch) (tree : Files) (side : List Named) →
      IsLawfulState state → Has state branch catches → LeadsTo catches tree → IsSideIn catches name side →
      stands state.branches new_name ≡ false → is_too_large state.limits.catches catches (changes_in side) ≡ false →
      KeepFilesShort (changes_in side) tree →
      (next : Contents) × (step state (call.Record branch new_name (changes_in side)) ≡ Next next)
  pub else_too_large :
      (state : Contents) (branch name new_name : List ℕ) (catches : List Catch) (side : List Named) →
      IsLawfulState state → Has state branch catches → IsSideIn catches name side → stands state.branches new_name ≡ false →
      ((next : Contents) × (step state (call.Record branch new_name (changes_in side)) ≡ Next next))
      ⊎ (step state (call.Record branch new_name (changes_in side)) ≡ refused TooLarge)

-- a pull of the names of `AreAlong` is refused neither for a missing patch nor because one depends on another
abbrev pub AlongIsEnough : Type 0
AlongIsEnough =
    (state : Contents) (from to : List ℕ) (names told : List (List ℕ)) → AreAlong state from to names (Ok told) →
    ((name : List ℕ) → ¬ (step state (call.Pull from to (Some told)) ≡ refused (NoPatch name)))
    × ((patch on : List ℕ) → ¬ (step state (call.Pull from to (Some told)) ≡ refused (Depends patch on)))

-- a call does what was foreseen: it gets the foreseen reply. If no branch was foreseen, nothing changes. If one was,
-- questions for its tree and conflicts, asked directly after the call, have the foreseen answers, and exactly the
-- foreseen conflicts become unresolved, and exactly the foreseen ones are resolved or disappear
pub record HappensAsForeseen (state : Contents) (asked : Call) (seen : Foreseen) : Type 0 where
  pub replied : reply_of (step state asked) ≡ seen.reply
  pub stays : seen.changed ≡ None → state_after_decision state (step state asked) ≡ state
  pub changed :
      (standing : BranchState) → seen.changed ≡ Some standing →
      replies_to state (asked ∷ call.Tree standing.branch ∷ call.Conflicts standing.branch ∷ [])
      ≡ seen.reply ∷ reply.Tree standing.tree ∷ reply.Conflicts standing.conflicts ∷ []
  pub unresolved :
      (standing : BranchState) → seen.changed ≡ Some standing → (before after : List (List ℕ × List ℕ)) →
      AreUnresolvedAt state standing.branch before → AreUnresolved (state_after_decision state (step state asked)) standing.branch (Ok after) →
      (standing.opened ≡ pairs_without before after) × (standing.resolved ≡ pairs_without after before)

-- every call at every state does what was foreseen
abbrev pub ForeseenHappens : Type 0
ForeseenHappens = (state : Contents) (asked : Call) (seen : Foreseen) → Foresees state asked seen → HappensAsForeseen state asked seen
