-- The tree of git after the changes of a commit.
use Rattle.camp_git.proofs.Words.{◌≡◌, ◌⊎◌, ◌++◌, ◌∷◌, [], ◌||◌, ◌&&◌, ◌∙◌, ℕ, not, Bool, List, Option, None, Some, true, false, true≢false, cond, refl, sym, ap, inl, inr, bytes_eq, contains_key, get, is_some, none-some, Files, Lines}
use Rattle.std.specs.Cmp.{first_so}
use Rattle.std.proofs.lemmas.Bool.{cases_Bool}
use Rattle.camp_branch.proofs.NameSets.{or_none}
use Rattle.camp_branch.proofs.Names.{same_name}
use Rattle.camp_branch.specs.Branches.{is_among}
use Rattle.camp_git.specs.Exports.{content_of, HasFilesOf}
use Rattle.camp_git.specs.FastImport.{FileChange, FileDelete, FileModify, GitTree, git_tree_after, changed_by, is_inside}
use Rattle.camp_git.specs.Holding.{CanHold}
use Rattle.std.specs.List.{flat_map}
use Rattle.camp_git.specs.Inside.Commits.{deletion_of, modification_of, modified_to}
use Rattle.std.specs.Prelude.{option_map}

-- a git tree has files only where this tree has
abbrev pub IsWithin : GitTree → Files → Type 0
IsWithin git files = (path : List ℕ) (content : List ℕ) → git path ≡ Some content → contains_key files path ≡ true

-- in a tree that git holds no file is in the folder of another
pub not_inside : (files : Files) (folder path : List ℕ) → CanHold files → contains_key files folder ≡ true → contains_key files path ≡ true → is_inside folder path ≡ false
not_inside files folder path held has there = elim (cases_Bool (is_inside folder path)) [
  | inl inside ↦ absurd (held folder has (inr (path, there, inside)))
  | inr apart ↦ apart
]

-- a path has some content, or none
some_or_none : (o : Option (List ℕ)) → ((content : List ℕ) × (o ≡ Some content)) ⊎ (o ≡ None)
some_or_none None = inr refl
some_or_none (Some content) = inl (content, refl)

none_anyway : (b : Bool) (o : Option (List ℕ)) → o ≡ None → cond b None o ≡ o
none_anyway true o e = sym e
none_anyway false o e = refl

-- only a file of a held tree is deleted
pub deleted_alone : (git : GitTree) (files : Files) (path other : List ℕ) → CanHold files → IsWithin git files → contains_key files path ≡ true → git_tree_after git (FileDelete path) other ≡ cond (bytes_eq other path) None (git other)
deleted_alone git files path other held within has = elim (some_or_none (git other)) [
  | inl (content, is) ↦ ap (λ b. cond b None (git other)) (ap (λ b. bytes_eq other path || b) (not_inside files path other held has (within other content is)) ∙ or_none (bytes_eq other path))
  | inr is ↦ none_anyway (bytes_eq other path || is_inside path other) (git other) is ∙ sym (none_anyway (bytes_eq other path) (git other) is)
]

-- a file of a held tree gets its content, and nothing else changes
pub modified_alone : (git : GitTree) (files : Files) (path content other : List ℕ) → CanHold files → IsWithin git files → contains_key files path ≡ true → git_tree_after git (FileModify path content) other ≡ cond (bytes_eq other path) (Some content) (git other)
modified_alone git files path content other held within has = elim (some_or_none (git other)) [
  | inl (now, is) ↦ let there = within other now is in
      ap (λ b. cond (bytes_eq other path) (Some content) (cond b None (git other))) ((λ i. not_inside files path other held has there i || not_inside files other path held there has i))
  | inr is ↦ ap (cond (bytes_eq other path) (Some content)) (none_anyway (is_inside path other || is_inside other path) (git other) is)
]

taken : (e a d : Bool) (v s x : Option (List ℕ)) → (e ≡ true → d ≡ true) → (e ≡ true → s ≡ v) → cond (a && d) v (cond e s x) ≡ cond ((e || a) && d) v x
taken true true true v s x one same = refl
taken true false true v s x one same = same refl
taken true a false v s x one same = absurd (true≢false (sym (one refl)))
taken false a d v s x one same = refl

passed : (e a d : Bool) (v x : Option (List ℕ)) → (e ≡ true → d ≡ false) → cond (a && d) v x ≡ cond ((e || a) && d) v x
passed true true false v x none = refl
passed true false false v x none = refl
passed true a true v x none = absurd (true≢false (none refl))
passed false a d v x none = refl

-- a path whose file stays or is deleted keeps its content when another is deleted
kept_within : (b : Bool) (o : Option (List ℕ)) (content : List ℕ) → cond b None o ≡ Some content → o ≡ Some content
kept_within true o content e = absurd (none-some content e)
kept_within false o content e = e

-- whether a file goes
abbrev pub goes : Files → Files → List ℕ → Bool
goes old new path = contains_key old path && not (contains_key new path)

module _ (old new : Files) (held : CanHold old) where
  delete_next : (path : List ℕ) (paths : List (List ℕ)) (git : GitTree) (other : List ℕ) (b : Bool) → goes old new path ≡ b → IsWithin git old → ((next : GitTree) → IsWithin next old → changed_by next (flat_map (deletion_of old new) paths) other ≡ cond (is_among paths other && goes old new other) None (next other)) → changed_by git (cond b (FileDelete path ∷ []) [] ++ flat_map (deletion_of old new) paths) other ≡ cond ((bytes_eq other path || is_among paths other) && goes old new other) None (git other)
  delete_next path paths git other true is within more =
      let has = first_so (contains_key old path) (not (contains_key new path)) is in
      let next = git_tree_after git (FileDelete path) in
      let alone = λ (q : List ℕ). deleted_alone git old path q held within has in
      more next (λ q content e. within q content (kept_within (bytes_eq q path) (git q) content (sym (alone q) ∙ e)))
      ∙ ap (cond (is_among paths other && goes old new other) None) (alone other)
      ∙ taken (bytes_eq other path) (is_among paths other) (goes old new other) None None (git other) (λ e. ap (goes old new) (same_name other path e) ∙ is) (λ e. refl)
  delete_next path paths git other false is within more =
      more git within ∙ passed (bytes_eq other path) (is_among paths other) (goes old new other) None (git other) (λ e. ap (goes old new) (same_name other path e) ∙ is)

  pub deleted : (paths : List (List ℕ)) (git : GitTree) (other : List ℕ) → IsWithin git old → changed_by git (flat_map (deletion_of old new) paths) other ≡ cond (is_among paths other && goes old new other) None (git other)
  deleted [] git other within = refl
  deleted (path ∷ paths) git other within =
      delete_next path paths git other (goes old new path) refl within (λ next inside. deleted paths next other inside)

-- the content of a file of a tree
abbrev pub content_at : Files → List ℕ → Option (List ℕ)
content_at files path = option_map content_of (get files path)

module _ (new : Files) (held : CanHold new) where
  put_within : (git : GitTree) (path content q now : List ℕ) → IsWithin git new → contains_key new path ≡ true → cond (bytes_eq q path) (Some content) (git q) ≡ Some now → contains_key new q ≡ true
  put_within git path content q now within has e = elim (cases_Bool (bytes_eq q path)) [
    | inl same ↦ ap (contains_key new) (same_name q path same) ∙ has
    | inr other ↦ within q now (ap (λ b. cond b (Some content) (git q)) (sym other) ∙ e)
  ]

  modify_next : (path : List ℕ) (paths : List (List ℕ)) (git : GitTree) (other : List ℕ) (o : Option Lines) → get new path ≡ o → IsWithin git new → ((next : GitTree) → IsWithin next new → changed_by next (flat_map (modification_of new) paths) other ≡ cond (is_among paths other && contains_key new other) (content_at new other) (next other)) → changed_by git (modified_to path o ++ flat_map (modification_of new) paths) other ≡ cond ((bytes_eq other path || is_among paths other) && contains_key new other) (content_at new other) (git other)
  modify_next path paths git other (Some lines) is within more =
      let has : contains_key new path ≡ true = ap is_some is in
      let content = content_of lines in
      let next = git_tree_after git (FileModify path content) in
      let alone = λ (q : List ℕ). modified_alone git new path content q held within has in
      more next (λ q now e. put_within git path content q now within has (sym (alone q) ∙ e))
      ∙ ap (cond (is_among paths other && contains_key new other) (content_at new other)) (alone other)
      ∙ taken (bytes_eq other path) (is_among paths other) (contains_key new other) (content_at new other) (Some content) (git other) (λ e. ap (contains_key new) (same_name other path e) ∙ has) (λ e. sym (ap (content_at new) (same_name other path e) ∙ ap (option_map content_of) is))
  modify_next path paths git other None is within more =
      more git within ∙ passed (bytes_eq other path) (is_among paths other) (contains_key new other) (content_at new other) (git other) (λ e. ap (contains_key new) (same_name other path e) ∙ ap is_some is)

  pub modified : (paths : List (List ℕ)) (git : GitTree) (other : List ℕ) → IsWithin git new → changed_by git (flat_map (modification_of new) paths) other ≡ cond (is_among paths other && contains_key new other) (content_at new other) (git other)
  modified [] git other within = refl
  modified (path ∷ paths) git other within =
      modify_next path paths git other (get new path) refl within (λ next inside. modified paths next other inside)

pub changed_by-append : (git : GitTree) (front rest : List FileChange) → changed_by git (front ++ rest) ≡ changed_by (changed_by git front) rest
changed_by-append git [] rest = refl
changed_by-append git (change ∷ front) rest = changed_by-append (git_tree_after git change) front rest

module _ (old new : Files) (was : CanHold old) (held : CanHold new) (paths : List (List ℕ)) (stays : (path : List ℕ) → is_among paths path ≡ false → get new path ≡ get old path) (git : GitTree) (shows : HasFilesOf git old) where
  within_old : IsWithin git old
  within_old path content e = has (get old path) (sym (shows path) ∙ e)
    where
      has : (o : Option Lines) → option_map content_of o ≡ Some content → is_some o ≡ true
      has None e = absurd (none-some content e)
      has (Some lines) e = refl

  gone : (path : List ℕ) → changed_by git (flat_map (deletion_of old new) paths) path ≡ cond (is_among paths path && goes old new path) None (git path)
  gone path = deleted old new was paths git path within_old

  -- each of the files that remain is in the new tree
  within_new : IsWithin (changed_by git (flat_map (deletion_of old new) paths)) new
  within_new path content e = elim (cases_Bool (is_among paths path)) [
    | inl listed ↦ stays_there (contains_key old path) (contains_key new path) (within_old path content (kept_within _ (git path) content (sym (gone path) ∙ e))) (sym (gone path ∙ ap (λ b. cond (b && goes old new path) None (git path)) listed) ∙ e)
    | inr apart ↦ ap is_some (stays path apart) ∙ within_old path content (kept_within _ (git path) content (sym (gone path) ∙ e))
  ]
    where
      stays_there : (a b : Bool) → a ≡ true → cond (a && not b) None (git path) ≡ Some content → b ≡ true
      stays_there a true has e = refl
      stays_there true false has e = absurd (none-some content e)
      stays_there false false has e = absurd (true≢false (sym has))

  told : (path : List ℕ) (listed : Bool) → is_among paths path ≡ listed → (now : Option Lines) → get new path ≡ now → (before : Option Lines) → get old path ≡ before → cond (listed && is_some now) (option_map content_of now) (cond (listed && (is_some before && not (is_some now))) None (option_map content_of before)) ≡ option_map content_of now
  told path true is (Some now) e before f = refl
  told path true is None e (Some before) f = refl
  told path true is None e None f = refl
  told path false is now e before f = ap (option_map content_of) (sym f ∙ sym (stays path is) ∙ e)

  -- after the changes git has the new tree
  pub shows_new : HasFilesOf (changed_by git (flat_map (deletion_of old new) paths ++ flat_map (modification_of new) paths)) new
  shows_new path =
      ap (λ (t : GitTree). t path) (changed_by-append git (flat_map (deletion_of old new) paths) (flat_map (modification_of new) paths))
      ∙ modified new held paths (changed_by git (flat_map (deletion_of old new) paths)) path within_new
      ∙ ap (cond (is_among paths path && contains_key new path) (content_at new path)) (gone path ∙ ap (cond (is_among paths path && goes old new path) None) (shows path))
      ∙ told path (is_among paths path) refl (get new path) refl (get old path) refl
