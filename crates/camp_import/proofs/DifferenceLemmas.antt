-- Sets of paths, and the paths at which trees differ.
use Rattle.std.proofs.Common.{◌≡◌, ℕ, Bool, true, false, true≢false, T, List, [], ◌∷◌, cond, refl, sym, ap, subst, ◌∙◌, ◌⊎◌, inl, inr, ⊎_elim, Option, None, Some}
use Rattle.std.specs.Prelude.{is_some}
use Rattle.std.specs.FinMap.{FinMap, empty, entries, entries_sorted, find, get, get-empty, get-entries, insert, is_sorted}
use Rattle.std.specs.FinMap.Entries.{below_all}
use Rattle.std.specs.Ordering.{is_lt}
use Rattle.std.proofs.lemmas.Option.{same_Some}
use Rattle.camp_base.specs.Bytes.{is_path}
use Rattle.camp_base.specs.Trees.{Files, Lines}
use Rattle.camp_coding.specs.GitTrees.{place_path}
use Rattle.camp_coding.specs.declared.attributes.Attribute.TheVariants.{ModeLine, LacksNewline, Wrapped}
use Rattle.camp_coding.proofs.PlaceLemmas.{bytes_or_not, inserted_at, inserted_other}
use Rattle.camp_share.specs.Maps.{map_of}
use Rattle.camp_import.specs.Inside.Changing.{AddsDifferences, AddsOther, AddsPlace, AddsPlaces, HasAllOf, HasOther, PathSet}
use Rattle.camp_import.specs.TreeChanges.{DifferWithin, HasDifferencesOnly, HasPath}
use Rattle.camp_import.proofs.TreeLemmas.{T_first, T_second, not_below_itself, other_key, path_cmp, same_key}

-- the files of a tree, in order
abbrev pub FileEntries : Type 0
FileEntries = List (List ℕ × Lines)

-- a set of paths as a finite map
abbrev pub map_of_set : PathSet → FinMap path_cmp (Unit {0})
map_of_set set = map_of path_cmp set

-- one of the files is at a path, with these lines
abbrev pub HasFile : FileEntries → List ℕ → Lines → Type 0
HasFile [] path lines = ⊥
HasFile (entry ∷ rest) path lines = ((entry.0 ≡ path) × (entry.1 ≡ lines)) ⊎ HasFile rest path lines

-- a set with one more path
module _ (old new : PathSet) (path : List ℕ) (is : map_of_set new ≡ insert (map_of_set old) path tt) where
  pub has_added : HasPath new path
  has_added = ap (λ (m : FinMap path_cmp (Unit {0})). get m path) is ∙ inserted_at (map_of_set old) path tt

  pub has_all_of : HasAllOf old new
  has_all_of other has =
      ⊎_elim
      (λ same. subst (HasPath new) (sym same) has_added)
      (λ differs. ap (λ (m : FinMap path_cmp (Unit {0})). get m other) is ∙ inserted_other (map_of_set old) path tt other differs ∙ has)
      (bytes_or_not other path)

  pub has_only : (other : List ℕ) → HasPath new other → HasPath old other ⊎ (other ≡ path)
  has_only other has =
      ⊎_elim
      (λ same. inr same)
      (λ differs. inl (sym (inserted_other (map_of_set old) path tt other differs) ∙ sym (ap (λ (m : FinMap path_cmp (Unit {0})). get m other) is) ∙ has))
      (bytes_or_not other path)

-- a place is added where it is a path, and else the set stays
pub place_added : (camp_path place : List ℕ) (old new : PathSet) → camp_path ≡ place → map_of_set new ≡ insert (map_of_set old) camp_path tt → AddsPlace place old new
place_added camp_path place old new same is =
    (has_all_of old new camp_path is, λ valid. subst (HasPath new) same (has_added old new camp_path is))

pub place_kept : (place : List ℕ) (old new : PathSet) → new ≡ old → is_path place ≡ false → AddsPlace place old new
place_kept place old new same no_path =
    (λ path has. subst (λ (set : PathSet). HasPath set path) (sym same) has, λ valid. absurd (true≢false (sym valid ∙ no_path)))

-- the path of a file that the other tree does not have is added
pub other_added : (shared path : List ℕ) (lines : Lines) (other : Files) (old new : PathSet) → ¬ (get other path ≡ Some lines) → shared ≡ path → map_of_set new ≡ insert (map_of_set old) shared tt → AddsOther path lines other old new
other_added shared path lines other old new lacks same is = record {
  all = has_all_of old new shared is;
  own = inl (subst (HasPath new) same (has_added old new shared is));
  only = λ another has. ⊎_elim (λ had. inl had) (λ own. inr (own ∙ same, lacks)) (has_only old new shared is another has);
}

pub other_kept : (path : List ℕ) (lines : Lines) (other : Files) (set : PathSet) → get other path ≡ Some lines → AddsOther path lines other set set
other_kept path lines other set same = record { all = λ another has. has; own = inr same; only = λ another has. inl has }

found_file : (path : List ℕ) (files : FileEntries) (lines : Lines) → find path_cmp path files ≡ Some lines → HasFile files path lines
found_file path [] lines found = absurd cc
found_file path (entry ∷ rest) lines found =
    ⊎_elim
    (λ same. inl (sym same, same_Some _ _ (sym (ap (λ (b : Bool). cond b (Some entry.1) (find path_cmp path rest)) (same_key path entry.0 same)) ∙ found)))
    (λ differs. inr (found_file path rest lines (sym (ap (λ (b : Bool). cond b (Some entry.1) (find path_cmp path rest)) (other_key path entry.0 differs)) ∙ found)))
    (bytes_or_not path entry.0)

-- a file of a tree is among its files
pub file_among : (tree : Files) (path : List ℕ) (lines : Lines) → get tree path ≡ Some lines → HasFile (entries tree) path lines
file_among tree path lines is = found_file path (entries tree) lines (sym (get-entries tree path) ∙ is)

below_file : (path : List ℕ) (files : FileEntries) (other : List ℕ) (lines : Lines) → T (below_all path_cmp path files) → HasFile files other lines → ¬ (path ≡ other)
below_file path [] other lines below has = absurd has
below_file path (entry ∷ rest) other lines below has =
    ⊎_elim
    (λ here. λ same. not_below_itself path (subst (λ (p : List ℕ). T (is_lt (path_cmp path p))) (here.0 ∙ sym same) (T_first (is_lt (path_cmp path entry.0)) (below_all path_cmp path rest) below)))
    (λ later. below_file path rest other lines (T_second (is_lt (path_cmp path entry.0)) (below_all path_cmp path rest) below) later)
    has

file_found : (path : List ℕ) (files : FileEntries) (lines : Lines) → T (is_sorted path_cmp files) → HasFile files path lines → find path_cmp path files ≡ Some lines
file_found path [] lines sorted has = absurd has
file_found path (entry ∷ rest) lines sorted has =
    ⊎_elim
    (λ here. ap (λ (b : Bool). cond b (Some entry.1) (find path_cmp path rest)) (same_key path entry.0 (sym here.0)) ∙ ap Some here.1)
    (λ later.
    ap (λ (b : Bool). cond b (Some entry.1) (find path_cmp path rest))
    (other_key path entry.0 (λ same. below_file entry.0 rest path lines (T_first (below_all path_cmp entry.0 rest) (is_sorted path_cmp rest) sorted) later (sym same)))
    ∙ file_found path rest lines (T_second (below_all path_cmp entry.0 rest) (is_sorted path_cmp rest) sorted) later)
    has

-- one of the files of a tree is its file at that path
pub file_of_tree : (tree : Files) (path : List ℕ) (lines : Lines) → HasFile (entries tree) path lines → get tree path ≡ Some lines
file_of_tree tree path lines has = get-entries tree path ∙ file_found path (entries tree) lines (entries_sorted tree) has

-- a set has the paths of a path of git and of its attributes, after one of them was added after another
pub places_added : (path : List ℕ) (s0 s1 s2 s3 s4 : PathSet) → AddsPlace (place_path None path) s0 s1 → AddsPlace (place_path (Some ModeLine) path) s1 s2 → AddsPlace (place_path (Some LacksNewline) path) s2 s3 → AddsPlace (place_path (Some Wrapped) path) s3 s4 → AddsPlaces path s0 s4
places_added path s0 s1 s2 s3 s4 a1 a2 a3 a4 = record {
  all = λ other has. a4.0 other (a3.0 other (a2.0 other (a1.0 other has)));
  own = λ is. a4.0 _ (a3.0 _ (a2.0 _ (a1.1 is)));
  mode = λ is. a4.0 _ (a3.0 _ (a2.1 is));
  newline = λ is. a4.0 _ (a3.1 is);
  wrapped = λ is. a4.1 is;
}

-- the files of a tree that are left: of the others the path is in the set, or the other tree has the same file
pub record AddsSoFar (tree other : Files) (old : PathSet) (rest : FileEntries) (found : PathSet) : Type 0 where
  pub all : HasAllOf old found
  pub each : (path : List ℕ) (lines : Lines) → get tree path ≡ Some lines → HasFile rest path lines ⊎ (HasPath found path ⊎ (get other path ≡ Some lines))
  pub only : (path : List ℕ) → HasPath found path → HasPath old path ⊎ HasOther tree other path
  pub among : (path : List ℕ) (lines : Lines) → HasFile rest path lines → get tree path ≡ Some lines

pub adds_start : (tree other : Files) (old : PathSet) → AddsSoFar tree other old (entries tree) old
adds_start tree other old = record {
  all = λ path has. has;
  each = λ path lines is. inl (file_among tree path lines is);
  only = λ path has. inl has;
  among = file_of_tree tree;
}

pub adds_one : (tree other : Files) (old : PathSet) (entry : List ℕ × Lines) (all rest : FileEntries) (found next : PathSet) → all ≡ entry ∷ rest → AddsOther entry.0 entry.1 other found next → AddsSoFar tree other old all found → AddsSoFar tree other old rest next
adds_one tree other old entry all rest found next cut adds so_far = record {
  all = λ path has. adds.all path (so_far.all path has);
  each = λ path lines is.
      ⊎_elim
      (λ left. passed path lines (subst (λ (l : FileEntries). HasFile l path lines) cut left))
      (λ done. inr (⊎_elim (λ has. inl (adds.all path has)) (λ same. inr same) done))
      (so_far.each path lines is);
  only = λ path has.
      ⊎_elim
      (λ had. so_far.only path had)
      (λ own. inr (subst (HasOther tree other) (sym own.0) (record { lines = entry.1; found = here_found; differs = own.1 })))
      (adds.only path has);
  among = λ path lines has. so_far.among path lines (subst (λ (l : FileEntries). HasFile l path lines) (sym cut) (inr has));
}
  where
    here_found : get tree entry.0 ≡ Some entry.1
    here_found = so_far.among entry.0 entry.1 (subst (λ (l : FileEntries). HasFile l entry.0 entry.1) (sym cut) (inl (refl, refl)))

    passed : (path : List ℕ) (lines : Lines) → HasFile (entry ∷ rest) path lines → HasFile rest path lines ⊎ (HasPath next path ⊎ (get other path ≡ Some lines))
    passed path lines left =
        ⊎_elim
        (λ here. inr (
        ⊎_elim
        (λ has. inl (subst (HasPath next) here.0 has))
        (λ same. inr (ap (get other) (sym here.0) ∙ same ∙ ap Some here.1))
        adds.own))
        (λ later. inl later)
        left

pub adds_all : (tree other : Files) (old : PathSet) (rest : FileEntries) (found : PathSet) → rest ≡ [] → AddsSoFar tree other old rest found → AddsDifferences tree other old found
adds_all tree other old rest found none so_far = record {
  all = so_far.all;
  each = λ path lines is.
      ⊎_elim
      (λ left. absurd (subst (λ (l : FileEntries). HasFile l path lines) none left))
      (λ done. done)
      (so_far.each path lines is);
  only = so_far.only;
}

-- two trees differ only at the paths of files that one of them has and the other one does not have
pub differ_within : (old new : Files) (s0 s1 s2 : PathSet) → AddsDifferences old new s0 s1 → AddsDifferences new old s1 s2 → DifferWithin s2 old new
differ_within old new s0 s1 s2 first second path none = by_cases (get old path) refl (get new path) refl
  where
    by_cases : (was : Option Lines) → get old path ≡ was → (is : Option Lines) → get new path ≡ is → get old path ≡ get new path
    by_cases (Some lines) before is after =
        ⊎_elim (λ has. absurd (none (second.all path has))) (λ same. before ∙ sym same) (first.each path lines before)
    by_cases None before (Some lines) after =
        ⊎_elim (λ has. absurd (none has)) (λ same. same ∙ sym after) (second.each path lines after)
    by_cases None before None after = before ∙ sym after

-- two trees differ at each path of a file that one of them has and the other one does not have
pub differences_only : (old new : Files) (s0 s1 s2 : PathSet) → ((path : List ℕ) → ¬ (HasPath s0 path)) → AddsDifferences old new s0 s1 → AddsDifferences new old s1 s2 → HasDifferencesOnly s2 old new
differences_only old new s0 s1 s2 none first second path has =
    ⊎_elim
    (λ had. ⊎_elim (λ no. absurd (none path no)) (λ gone. λ same. gone.differs (sym same ∙ gone.found)) (first.only path had))
    (λ come. λ same. come.differs (same ∙ come.found))
    (second.only path has)

-- a set without entries has no path
pub no_path_in : (set : PathSet) → map_of_set set ≡ empty → (path : List ℕ) → ¬ (HasPath set path)
no_path_in set bare path has =
    true≢false (ap is_some (sym has ∙ ap (λ (m : FinMap path_cmp (Unit {0})). get m path) bare ∙ get-empty path_cmp path))
