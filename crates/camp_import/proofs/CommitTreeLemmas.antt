-- Trees of commits, change after change.
use Rattle.std.proofs.Common.{◌≡◌, ◌+◌, ◌<◌, ℕ, Bool, true, false, true≢false, List, [], ◌∷◌, ◌++◌, length, get_or, take, refl, sym, ap, subst, ◌∙◌, ◌⊎◌, inl, inr, ⊎_elim, Option, None, Some, Ok, Err}
use Rattle.std.specs.Prelude.{MatchOption, is_some, option_and_then, slice_get}
use Rattle.std.specs.Cmp.Lexicographic.{slice_cmp}
use Rattle.std.specs.Ordering.{nat_cmp}
use Rattle.std.specs.FinMap.{empty, entries, get, get-empty, insert, remove}
use Rattle.std.specs.List.{AllByRecursion}
use Rattle.std.specs.Global.{Vec}
use Rattle.std.proofs.lemmas.Bool.{cases_Bool}
use Rattle.std.proofs.lemmas.List.{take_more}
use Rattle.std.proofs.lemmas.Option.{slice_get-get_or}
use Rattle.camp_base.specs.Bytes.{is_path}
use Rattle.camp_base.specs.Trees.{Files, Lines}
use Rattle.camp_coding.specs.GitPaths.{AreBytes, escaped_path}
use Rattle.camp_coding.specs.GitTrees.{EncodesTree, GitEntries, GitFile, PutsFile, RemovesFile, TouchesOnly, file_at, place_lines, place_path}
use Rattle.camp_coding.specs.declared.attributes.Attribute.{Attribute}
use Rattle.camp_coding.specs.declared.attributes.Attribute.TheVariants.{ModeLine, LacksNewline, Wrapped}
use Rattle.camp_coding.specs.declared.modes.Mode.{Mode}
use Rattle.camp_coding.specs.declared.trees.EncodeFault.{EncodeFault}
use Rattle.camp_coding.specs.declared.trees.EncodeFault.TheVariants.{BadPath, TooManyLines, Memory}
use Rattle.camp_coding.proofs.EscapeLemmas.{paths_differ}
use Rattle.camp_coding.proofs.GitTreeLemmas.{file_at_is}
use Rattle.camp_coding.proofs.PlaceLemmas.{bytes_or_not, no_file, removed_at, removed_other}
use Rattle.camp_import.specs.CommitTrees.{CanBeHeld, CannotSet, ChangeThrough, ChangesEntries, DeletesEntry, EmptiesFolder, EncodesChanged, GivesTree, folder_prefix, has_prefix}
use Rattle.camp_import.specs.Inside.Changing.{AddsDifferences, AddsPlaces, PathSet, RemovesEntry, RemovesFolder, RemovesIfBelow, StepsBy, StepsOr, StepsTo}
use Rattle.camp_import.specs.TreeChanges.{DifferWithin, HasPath}
use Rattle.camp_import.specs.declared.commit_trees.ChangedTree.{ChangedTree}
use Rattle.camp_import.specs.declared.commit_trees.EntryFault.{EntryFault}
use Rattle.camp_import.specs.declared.entry_changes.EntryChange.{EntryChange}
use Rattle.camp_import.specs.declared.entry_changes.EntryChange.TheVariants.{Set, Delete, DeleteAll}
use Rattle.camp_import.proofs.DifferenceLemmas.{FileEntries, HasFile, file_among}

-- the files of a tree are at paths of camp
abbrev AtPaths : Files → Type 0
AtPaths files = (camp_path : List ℕ) (lines : Lines) → get files camp_path ≡ Some lines → is_path camp_path ≡ true

-- the paths of one path of git are enough for a change of its entry
module _ (path : List ℕ) (old new : Files) (paths more : PathSet) (was : AtPaths old) (is : AtPaths new) (touches : TouchesOnly path old new) (adds : AddsPlaces path paths more) (first : Files) (within : DifferWithin paths first old) (camp_path : List ℕ) (none : ¬ (HasPath more camp_path)) where
  before : get first camp_path ≡ get old camp_path
  before = within camp_path (λ has. none (adds.all camp_path has))

  apart_from : (place : Option Attribute) → (is_path (place_path place path) ≡ true → HasPath more (place_path place path)) → is_path camp_path ≡ true → ¬ (camp_path ≡ place_path place path)
  apart_from place added valid same = none (subst (HasPath more) (sym same) (added (sym (ap is_path same) ∙ valid)))

  same_outside : get first camp_path ≡ get new camp_path
  same_outside =
      ⊎_elim
      (λ valid. before ∙ sym (touches camp_path (apart_from None adds.own valid) (apart_from (Some ModeLine) adds.mode valid) (apart_from (Some LacksNewline) adds.newline valid) (apart_from (Some Wrapped) adds.wrapped valid)))
      (λ no_path. before ∙ no_file camp_path old no_path was ∙ sym (no_file camp_path new no_path is))
      (cases_Bool (is_path camp_path))

steps_to : (path : List ℕ) (git : GitEntries) (old new : ChangedTree) → AtPaths old.tree → TouchesOnly path old.tree new.tree → AddsPlaces path old.paths new.paths → EncodesTree git new.tree → StepsTo git old new
steps_to path git old new was touches adds encodes = record {
  encodes = encodes;
  differs = λ first within camp_path none. same_outside path old.tree new.tree old.paths new.paths was encodes.paths touches adds first within camp_path none;
}

-- an entry is set
pub entry_set : (mode : Mode) (content path : Vec ℕ) (old new : ChangedTree) → PutsFile path.items (record { mode = mode; content = content.items }) old.tree (Ok new.tree) → AddsPlaces path.items old.paths new.paths → StepsOr (Set mode content path) old (Ok new)
entry_set mode content path old new puts adds = (
  (puts.0, puts.1),
  λ git encodes.
      let put = puts.2 git encodes in
      record {
        after = insert git path.items (record { mode = mode; content = content.items });
        changes = refl;
        steps = steps_to path.items _ old new encodes.paths put.1 adds put.0;
      },
)

-- an entry can't be set
pub entry_not_set : (mode : Mode) (content path : Vec ℕ) (old : Files) (why : EncodeFault) → PutsFile path.items (record { mode = mode; content = content.items }) old (Err why) → CannotSet why (Some (Set mode content path))
entry_not_set mode content path old BadPath puts = puts
entry_not_set mode content path old TooManyLines puts = puts
entry_not_set mode content path old Memory puts = tt

-- the same, by bytes that are those of the change
pub entry_set_by : (mode : Mode) (content path : Vec ℕ) (bytes put added : List ℕ) (old new : ChangedTree) → bytes ≡ content.items → put ≡ path.items → added ≡ path.items → PutsFile put (record { mode = mode; content = bytes }) old.tree (Ok new.tree) → AddsPlaces added old.paths new.paths → StepsOr (Set mode content path) old (Ok new)
entry_set_by mode content path bytes put added old new same_content same_put same_added puts adds =
    entry_set mode content path old new
    (subst (λ (l : List ℕ). PutsFile path.items (record { mode = mode; content = l }) old.tree (Ok new.tree)) same_content
    (subst (λ (l : List ℕ). PutsFile l (record { mode = mode; content = bytes }) old.tree (Ok new.tree)) same_put puts))
    (subst (λ (l : List ℕ). AddsPlaces l old.paths new.paths) same_added adds)

pub entry_not_set_by : (mode : Mode) (content path : Vec ℕ) (bytes put : List ℕ) (old : Files) (why : EncodeFault) → bytes ≡ content.items → put ≡ path.items → PutsFile put (record { mode = mode; content = bytes }) old (Err why) → CannotSet why (Some (Set mode content path))
entry_not_set_by mode content path bytes put old why same_content same_put puts =
    entry_not_set mode content path old why
    (subst (λ (l : List ℕ). PutsFile path.items (record { mode = mode; content = l }) old (Err why)) same_content
    (subst (λ (l : List ℕ). PutsFile l (record { mode = mode; content = bytes }) old (Err why)) same_put puts))

-- an entry is removed
pub entry_removed : (path : List ℕ) (old new : ChangedTree) → RemovesFile path old.tree new.tree → AddsPlaces path old.paths new.paths → RemovesEntry path old new
entry_removed path old new removes adds = λ git encodes.
    let gone = removes git encodes in steps_to path _ old new encodes.paths gone.1 adds gone.0

-- the file of a path of git, by its entry
own_file : (git : GitEntries) (files : Files) (path : List ℕ) → AreBytes path → EncodesTree git files → file_at files None path ≡ option_and_then (place_lines None) (get git path)
own_file git files path bytes encodes = file_at_is files None path encodes.paths ∙ encodes.each None path bytes

-- the entry of a path is deleted
pub one_deleted : (path : Vec ℕ) (old new : ChangedTree) → AreBytes path.items → is_some (file_at old.tree None path.items) ≡ true → RemovesEntry path.items old new → StepsOr (Delete path) old (Ok new)
one_deleted path old new bytes has removes = (
  tt,
  λ git encodes. record {
    after = remove git path.items;
    changes = by_cases git (get git path.items) (own_file git old.tree path.items bytes encodes);
    steps = removes git encodes;
  },
)
  where
    by_cases : (git : GitEntries) (entry : Option GitFile) → file_at old.tree None path.items ≡ option_and_then (place_lines None) entry → DeletesEntry path.items entry git (remove git path.items)
    by_cases git None is = absurd (true≢false (sym has ∙ ap is_some is))
    by_cases git (Some file) is = refl

-- the entries in a folder are deleted
pub folder_deleted : (path : Vec ℕ) (old new : ChangedTree) → AreBytes path.items → is_some (file_at old.tree None path.items) ≡ false → ((git : GitEntries) → EncodesTree git old.tree → RemovesFolder path.items git old new) → StepsOr (Delete path) old (Ok new)
folder_deleted path old new bytes none removes = (
  tt,
  λ git encodes.
      let gone = removes git encodes in
      record {
        after = gone.after;
        changes = by_cases git gone.after (get git path.items) (own_file git old.tree path.items bytes encodes) gone.empties;
        steps = gone.steps;
      },
)
  where
    by_cases : (git after : GitEntries) (entry : Option GitFile) → file_at old.tree None path.items ≡ option_and_then (place_lines None) entry → EmptiesFolder path.items git after → DeletesEntry path.items entry git after
    by_cases git after None is empties = empties
    by_cases git after (Some file) is empties = absurd (true≢false (sym (ap is_some is) ∙ none))

stays_as_it_is : (git : GitEntries) (old new : ChangedTree) → new ≡ old → EncodesTree git old.tree → StepsTo git old new
stays_as_it_is git old new same encodes =
    subst (StepsTo git old) (sym same) (record { encodes = encodes; differs = λ first within. within })

-- the path of git that a text was escaped from, or none
abbrev EscapedFrom : List ℕ → Option (Vec ℕ) → Type 0
EscapedFrom text found = MatchOption found ((path : List ℕ) → AreBytes path → ¬ (escaped_path path ≡ text)) (λ path. escaped_path path.items ≡ text)

-- what is stored at a path of camp is not in the folder
pub nothing_below : (camp_path prefix : List ℕ) (old new : ChangedTree) → new ≡ old → ((path : List ℕ) → AreBytes path → escaped_path path ≡ camp_path → has_prefix prefix path ≡ false) → (git : GitEntries) → EncodesTree git old.tree → RemovesIfBelow camp_path prefix git old new
nothing_below camp_path prefix old new same none = λ git encodes. record {
  after = git;
  gone = λ path bytes is below. absurd (true≢false (sym below ∙ none path bytes is));
  stays = λ path. inl refl;
  steps = stays_as_it_is git old new same encodes;
}

-- no path of git was escaped to a path of camp
pub not_escaped : (camp_path prefix text : List ℕ) (found : Option (Vec ℕ)) (old new : ChangedTree) → new ≡ old → text ≡ camp_path → found ≡ None → EscapedFrom text found → (git : GitEntries) → EncodesTree git old.tree → RemovesIfBelow camp_path prefix git old new
not_escaped camp_path prefix text found old new same is none escaped =
    nothing_below camp_path prefix old new same
    (λ path bytes path_is. absurd (subst (EscapedFrom text) none escaped path bytes (path_is ∙ sym is)))

-- the path of git that was escaped is not in the folder
pub not_in_folder : (camp_path prefix text : List ℕ) (found : Option (Vec ℕ)) (path : Vec ℕ) (old new : ChangedTree) → new ≡ old → text ≡ camp_path → found ≡ Some path → EscapedFrom text found → AreBytes path.items → has_prefix prefix path.items ≡ false → (git : GitEntries) → EncodesTree git old.tree → RemovesIfBelow camp_path prefix git old new
not_in_folder camp_path prefix text found path old new same is some escaped bytes outside =
    nothing_below camp_path prefix old new same
    (λ other other_bytes other_is.
    ap (has_prefix prefix) (paths_differ other path.items other_bytes bytes (other_is ∙ sym is ∙ sym (subst (EscapedFrom text) some escaped))) ∙ outside)

-- what is stored at a path of camp is in the folder, and is removed
pub one_below : (camp_path prefix path : List ℕ) (old new : ChangedTree) → AreBytes path → escaped_path path ≡ camp_path → has_prefix prefix path ≡ true → RemovesEntry path old new → (git : GitEntries) → EncodesTree git old.tree → RemovesIfBelow camp_path prefix git old new
one_below camp_path prefix path old new bytes is below removes = λ git encodes. record {
  after = remove git path;
  gone = λ other other_bytes other_is other_below.
      ap (get (remove git path)) (paths_differ other path other_bytes bytes (other_is ∙ sym is)) ∙ removed_at git path;
  stays = λ other.
      ⊎_elim
      (λ same. inr (ap (get (remove git path)) same ∙ removed_at git path, ap (has_prefix prefix) same ∙ below))
      (λ differs. inl (removed_other git path other differs))
      (bytes_or_not other path);
  steps = removes git encodes;
}

-- the path of git that was escaped is in the folder, and its entry is removed
pub in_folder : (camp_path prefix text removed : List ℕ) (found : Option (Vec ℕ)) (path : Vec ℕ) (old new : ChangedTree) → text ≡ camp_path → found ≡ Some path → EscapedFrom text found → AreBytes path.items → has_prefix prefix path.items ≡ true → removed ≡ path.items → RemovesEntry removed old new → (git : GitEntries) → EncodesTree git old.tree → RemovesIfBelow camp_path prefix git old new
in_folder camp_path prefix text removed found path old new is some escaped bytes below same removes =
    one_below camp_path prefix path.items old new bytes (subst (EscapedFrom text) some escaped ∙ is) below
    (subst (λ (p : List ℕ). RemovesEntry p old new) same removes)

-- the entries whose files were passed are gone if they have a prefix; all others stand as they did
pub record EmptiesSoFar (prefix : List ℕ) (git : GitEntries) (old : ChangedTree) (rest : FileEntries) (now : ChangedTree) : Type 0 where
  pub middle : GitEntries
  pub gone : (path : List ℕ) → AreBytes path → has_prefix prefix path ≡ true → (get middle path ≡ None) ⊎ ((lines : Lines) × HasFile rest (escaped_path path) lines)
  pub stays : (path : List ℕ) → has_prefix prefix path ≡ false → get middle path ≡ get git path
  pub steps : StepsTo middle old now

pub empties_start : (prefix : List ℕ) (old now : ChangedTree) → now ≡ old → (git : GitEntries) → EncodesTree git old.tree → EmptiesSoFar prefix git old (entries old.tree) now
empties_start prefix old now same git encodes = record {
  middle = git;
  gone = λ path bytes below. by_cases path (get git path) refl (encodes.each None path bytes);
  stays = λ path not. refl;
  steps = stays_as_it_is git old now same encodes;
}
  where
    by_cases : (path : List ℕ) (entry : Option GitFile) → get git path ≡ entry → get old.tree (escaped_path path) ≡ option_and_then (place_lines None) (get git path) → (get git path ≡ None) ⊎ ((lines : Lines) × HasFile (entries old.tree) (escaped_path path) lines)
    by_cases path None is file = inl is
    by_cases path (Some found) is file = inr (_, file_among old.tree (escaped_path path) _ (file ∙ ap (option_and_then (place_lines None)) is))

pub empties_one : (prefix : List ℕ) (git : GitEntries) (old : ChangedTree) (entry : List ℕ × Lines) (all rest : FileEntries) (now next : ChangedTree) → all ≡ entry ∷ rest → ((middle : GitEntries) → EncodesTree middle now.tree → RemovesIfBelow entry.0 prefix middle now next) → EmptiesSoFar prefix git old all now → EmptiesSoFar prefix git old rest next
empties_one prefix git old entry all rest now next cut removes so_far =
    let one = removes so_far.middle so_far.steps.encodes in
    record {
      middle = one.after;
      gone = λ path bytes below.
          ⊎_elim
          (λ none. inl (⊎_elim (λ same. same ∙ none) (λ both. both.0) (one.stays path)))
          (λ left.
          ⊎_elim
          (λ here. inl (one.gone path bytes (sym here.0) below))
          (λ later. inr (left.0, later))
          (subst (λ (l : FileEntries). HasFile l (escaped_path path) left.0) cut left.1))
          (so_far.gone path bytes below);
      stays = λ path not.
          ⊎_elim
          (λ same. same ∙ so_far.stays path not)
          (λ both. absurd (true≢false (sym both.1 ∙ not)))
          (one.stays path);
      steps = record {
        encodes = one.steps.encodes;
        differs = λ first within. one.steps.differs first (so_far.steps.differs first within);
      };
    }

pub empties_all : (folder prefix : List ℕ) (git : GitEntries) (old : ChangedTree) (rest : FileEntries) (now : ChangedTree) → prefix ≡ folder_prefix folder → rest ≡ [] → EmptiesSoFar prefix git old rest now → RemovesFolder folder git old now
empties_all folder prefix git old rest now is none so_far = record {
  after = so_far.middle;
  empties = record {
    gone = λ path bytes below.
        ⊎_elim
        (λ gone. gone)
        (λ left. absurd (subst (λ (l : FileEntries). HasFile l (escaped_path path) left.0) none left.1))
        (so_far.gone path bytes (ap (λ (p : List ℕ). has_prefix p path) is ∙ below));
    stays = λ path not. so_far.stays path (ap (λ (p : List ℕ). has_prefix p path) is ∙ not);
  };
  steps = so_far.steps;
}

-- the empty tree is the code of the empty tree
encodes_empty : EncodesTree empty empty
encodes_empty = record {
  each = λ place path bytes. get-empty (slice_cmp nat_cmp) (place_path place path) ∙ sym (ap (option_and_then (place_lines place)) (get-empty (slice_cmp nat_cmp) path));
  nothing_else = λ camp_path lines found. absurd (true≢false (sym (ap is_some found) ∙ ap is_some (get-empty (slice_cmp nat_cmp) camp_path)));
  paths = λ camp_path lines found. absurd (true≢false (sym (ap is_some found) ∙ ap is_some (get-empty (slice_cmp nat_cmp) camp_path)));
}

-- all entries are deleted
pub all_deleted : (old new : ChangedTree) (shared : PathSet) → new.tree ≡ empty → shared ≡ old.paths → AddsDifferences old.tree new.tree shared new.paths → (git : GitEntries) → EncodesTree git old.tree → StepsTo empty old new
all_deleted old new shared bare same adds git encodes = record {
  encodes = subst (EncodesTree empty) (sym bare) encodes_empty;
  differs = λ first within path none.
      within path (λ has. none (adds.all path (subst (λ (set : PathSet). HasPath set path) (sym same) has))) ∙ by_cases path none (get old.tree path) refl;
}
  where
    by_cases : (path : List ℕ) → ¬ (HasPath new.paths path) → (file : Option Lines) → get old.tree path ≡ file → get old.tree path ≡ get new.tree path
    by_cases path none None is = is ∙ sym (ap (λ (files : Files). get files path) bare ∙ get-empty (slice_cmp nat_cmp) path)
    by_cases path none (Some lines) is = ⊎_elim (λ has. absurd (none has)) (λ found. is ∙ sym found) (adds.each path lines is)

pub all_by_change : (old new : ChangedTree) → ((git : GitEntries) → EncodesTree git old.tree → StepsTo empty old new) → StepsOr DeleteAll old (Ok new)
all_by_change old new steps = (tt, λ git encodes. record { after = empty; changes = refl; steps = steps git encodes })

-- one more change at the end
through_one_more : (changes : List EntryChange) (change : EntryChange) (git middle after : GitEntries) → ChangeThrough changes git middle → ChangesEntries change middle after → ChangeThrough (changes ++ change ∷ []) git after
through_one_more [] change git middle after same leads =
    (after, subst (λ (g : GitEntries). ChangesEntries change g after) (sym same) leads, refl)
through_one_more (head ∷ changes) change git middle after through leads =
    (through.0, through.1, through_one_more changes change through.0 middle after through.2 leads)

-- the tree after the first changes
abbrev pub TreeSoFar : List EntryChange → ℕ → Files → ChangedTree → Type 0
TreeSoFar changes index old now =
    AllByRecursion CanBeHeld (take index changes)
    × ((git : GitEntries) → EncodesTree git old → EncodesChanged (take index changes) git old now)

held_one_more : (changes : List EntryChange) (change : EntryChange) → AllByRecursion CanBeHeld changes → CanBeHeld change → AllByRecursion CanBeHeld (changes ++ change ∷ [])
held_one_more [] change all can = (can, tt)
held_one_more (head ∷ changes) change all can = (all.0, held_one_more changes change all.1 can)

pub tree_start : (changes : List EntryChange) (old : Files) (now : ChangedTree) → now.tree ≡ old → TreeSoFar changes 0 old now
tree_start changes old now same = (
  tt,
  λ git encodes. record {
    after = git;
    leads = refl;
    encodes = subst (EncodesTree git) (sym same) encodes;
    differs = λ path none. ap (λ (files : Files). get files path) (sym same);
  },
)

pub tree_one : (changes : List EntryChange) (index : ℕ) (change : EntryChange) (old : Files) (now next : ChangedTree) → take (index + 1) changes ≡ take index changes ++ change ∷ [] → StepsOr change now (Ok next) → TreeSoFar changes index old now → TreeSoFar changes (index + 1) old next
tree_one changes index change old now next longer steps so_far = (
  subst (AllByRecursion CanBeHeld) (sym longer) (held_one_more (take index changes) change so_far.0 steps.0),
  λ git encodes.
      let done = so_far.1 git encodes in
      let step = steps.1 done.after done.encodes in
      record {
        after = step.after;
        leads = subst (λ (l : List EntryChange). ChangeThrough l git step.after) (sym longer) (through_one_more (take index changes) change git done.after step.after done.leads step.changes);
        encodes = step.steps.encodes;
        differs = step.steps.differs old done.differs;
      },
)

-- the next change of some
pub one_more : (changes : List EntryChange) (index : ℕ) (change : EntryChange) (old : Files) (now next : ChangedTree) → index < length changes → change ≡ get_or changes index change → StepsOr change now (Ok next) → TreeSoFar changes index old now → TreeSoFar changes (index + 1) old next
one_more changes index change old now next within is steps so_far =
    tree_one changes index change old now next
    (take_more changes index change within ∙ ap (λ (c : EntryChange). take index changes ++ c ∷ []) (sym is))
    steps so_far

-- a change that can't be held has this index
pub fails_at_index : (changes : List EntryChange) (change : EntryChange) (index : ℕ) (why : EncodeFault) (fault : EntryFault) (old : Files) (now : ChangedTree) → fault ≡ record { index = index; why = why } → index < length changes → change ≡ get_or changes index change → CannotSet why (Some change) → TreeSoFar changes index old now → GivesTree old changes (Err fault)
fails_at_index changes change index why fault old now same within is cannot so_far =
    subst (λ (f : EntryFault). GivesTree old changes (Err f)) (sym same)
    (so_far.0, subst (CannotSet why) (sym (slice_get-get_or changes index change within ∙ ap Some (sym is))) cannot)

pub tree_all : (changes : List EntryChange) (index : ℕ) (old : Files) (now : ChangedTree) → take index changes ≡ changes → TreeSoFar changes index old now → GivesTree old changes (Ok now)
tree_all changes index old now whole so_far = (
  subst (AllByRecursion CanBeHeld) whole so_far.0,
  λ git encodes. subst (λ (l : List EntryChange). EncodesChanged l git old now) whole (so_far.1 git encodes),
)
