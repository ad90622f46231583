-- Files of a camp tree that are set or removed, and the places of a path of git.
use Rattle.std.proofs.Common.{◌≡◌, ℕ, ◌+◌, Bool, true, false, true≢false, List, [], ◌∷◌, ◌++◌, get_or, length, refl, sym, ◌∙◌, ap, subst, ◌⊎◌, inl, inr, ⊎_elim, Option, None, Some, Result, Ok, Err, cond, arith, append-nil}
use Rattle.std.specs.Prelude.{is_some}
use Rattle.std.specs.FinMap.{FinMap, get, insert, remove, get-insert, get-remove}
use Rattle.std.specs.Ordering.{nat_cmp, eq_by_cmp}
use Rattle.std.specs.Cmp.Lexicographic.{slice_cmp}
use Rattle.std.specs.Str.{bytes_eq}
use Rattle.std.proofs.lemmas.Bool.{cases_Bool}
use Rattle.std.proofs.lemmas.Cmp.{nat_list_cmp_total}
use Rattle.std.proofs.lemmas.Map.Text.{is_eq-slice_cmp}
use Rattle.std.proofs.lemmas.Option.{same_Some}
use Rattle.std.proofs.lemmas.Slice.Eq.{bytes_eq-Decides}
use Rattle.camp_base.specs.Bytes.{is_path}
use Rattle.camp_base.specs.Trees.{Adds, Files, Lines, Removes, Splices, SplicesLines}
use Rattle.camp_coding.specs.Attributes.{attribute_folder}
use Rattle.camp_coding.specs.GitPaths.{AreBytes}
use Rattle.camp_coding.specs.GitTrees.{IsEntryPlace, place_path}
use Rattle.camp_coding.specs.Inside.Placing.{AtNoPath, AtPath, HasPathsOnly, Refuses, SetsFile, SetsPlace}
use Rattle.camp_coding.specs.declared.attributes.Attribute.{Attribute}
use Rattle.camp_coding.specs.declared.attributes.Attribute.TheVariants.{ModeLine, LacksNewline, Wrapped, EmptyCommit}
use Rattle.camp_coding.specs.declared.trees.EncodeFault.{EncodeFault}
use Rattle.camp_coding.specs.declared.trees.EncodeFault.TheVariants.{BadPath, TooManyLines, Memory}
use Rattle.camp_coding.proofs.AttributeLemmas.{are_free, differ}
use Rattle.camp_coding.proofs.EscapeLemmas.{paths_differ}

pub bytes_or_not : (bytes other : List ℕ) → (bytes ≡ other) ⊎ (¬ (bytes ≡ other))
bytes_or_not bytes other =
    ⊎_elim
    (λ is. inl ((bytes_eq-Decides bytes other).0 is))
    (λ is_not. inr (λ same. true≢false (sym ((bytes_eq-Decides bytes other).1 same) ∙ is_not)))
    (cases_Bool (bytes_eq bytes other))

tied : (path other : List ℕ) → path ≡ other → eq_by_cmp (slice_cmp nat_cmp) path other ≡ true
tied path other same = is_eq-slice_cmp path other ∙ (bytes_eq-Decides path other).1 same

apart : (path other : List ℕ) → ¬ (path ≡ other) → eq_by_cmp (slice_cmp nat_cmp) path other ≡ false
apart path other differs =
    is_eq-slice_cmp path other
    ∙ ⊎_elim (λ is. absurd (differs ((bytes_eq-Decides path other).0 is))) (λ is_not. is_not) (cases_Bool (bytes_eq path other))

module _ {X : Type 0} (m : FinMap (slice_cmp nat_cmp) X) (path : List ℕ) where
  pub inserted_at : (x : X) → get (insert m path x) path ≡ Some x
  inserted_at x = get-insert nat_list_cmp_total m path x path ∙ ap (λ (b : Bool). cond b (Some x) (get m path)) (tied path path refl)

  pub inserted_other : (x : X) (other : List ℕ) → ¬ (other ≡ path) → get (insert m path x) other ≡ get m other
  inserted_other x other differs = get-insert nat_list_cmp_total m path x other ∙ ap (λ (b : Bool). cond b (Some x) (get m other)) (apart other path differs)

  pub removed_at : get (remove m path) path ≡ None
  removed_at = get-remove nat_list_cmp_total m path path ∙ ap (λ (b : Bool). cond b None (get m path)) (tied path path refl)

  pub removed_other : (other : List ℕ) → ¬ (other ≡ path) → get (remove m path) other ≡ get m other
  removed_other other differs = get-remove nat_list_cmp_total m path other ∙ ap (λ (b : Bool). cond b None (get m other)) (apart other path differs)

-- a file that is emptied and removed
pub cleared : (path : List ℕ) (gone : Lines) (old between new : Files) → Splices path 1 gone [] old between → Removes path between new → SetsFile path None old new
cleared path gone old between new splices removes = record {
  at = ap (λ (f : Files). get f path) removes.becomes ∙ removed_at between path;
  other = λ another differs.
      ap (λ (f : Files). get f another) removes.becomes
      ∙ removed_other between path another differs
      ∙ ap (λ (f : Files). get f another) splices.becomes
      ∙ inserted_other old path splices.changed another differs;
}

-- what is no file is cleared
pub cleared_none : (path : List ℕ) (files : Files) → get files path ≡ None → SetsFile path None files files
cleared_none path files none = record { at = none; other = λ another differs. refl }

no_length : (lines : Lines) → length lines + 1 ≡ 1 → lines ≡ []
no_length [] is = refl
no_length (line ∷ lines) is = absurd (omega (arith, is))

-- all lines of an empty file
come_alone : (before after come lines changed : Lines) → before ≡ [] → lines ≡ [] → lines ≡ before ++ [] ++ after → changed ≡ before ++ come ++ after → changed ≡ come
come_alone [] after come lines changed front none was becomes =
    let left : after ≡ [] = sym was ∙ none in
    becomes ∙ ap (λ (l : Lines). come ++ l) left ∙ append-nil come
come_alone (line ∷ before) after come lines changed front none was becomes =
    let long = ap length front in absurd (omega (arith, long))

all_come : (come lines changed : Lines) → lines ≡ [] → SplicesLines 1 [] come lines changed → changed ≡ come
all_come come lines changed none splices =
    come_alone splices.before splices.after come lines changed (no_length splices.before splices.at) none splices.was splices.becomes

-- a file that is added and filled
pub written : (path : List ℕ) (come : Lines) (old between new : Files) → Adds path old between → Splices path 1 [] come between new → SetsFile path (Some come) old new
written path come old between new adds splices =
    let found : Some splices.lines ≡ Some [] =
    sym splices.found ∙ ap (λ (f : Files). get f path) adds.becomes ∙ inserted_at old path [] in
    let all : splices.changed ≡ come = all_come come splices.lines splices.changed (same_Some _ _ found) splices.splices in
    record {
      at = ap (λ (f : Files). get f path) splices.becomes ∙ inserted_at between path splices.changed ∙ ap Some all;
      other = λ another differs.
          ap (λ (f : Files). get f another) splices.becomes
          ∙ inserted_other between path splices.changed another differs
          ∙ ap (λ (f : Files). get f another) adds.becomes
          ∙ inserted_other old path [] another differs;
    }

-- the last of two settings holds
pub set_again : (path : List ℕ) (lines first : Option Lines) (old between new : Files) → SetsFile path first old between → SetsFile path lines between new → SetsFile path lines old new
set_again path lines first old between new before after = record {
  at = after.at;
  other = λ another differs. after.other another differs ∙ before.other another differs;
}

pub at_path_case : (path : List ℕ) (lines : Option Lines) (found : Lines) → AtPath path lines → lines ≡ Some found → is_path path ≡ true
at_path_case path None found at is = absurd (true≢false (ap is_some (sym is)))
at_path_case path (Some lines) found at is = at

-- files stay at paths of camp
pub paths_kept : (path : List ℕ) (lines : Option Lines) (old new : Files) → AtPath path lines → SetsFile path lines old new → HasPathsOnly old → HasPathsOnly new
paths_kept path lines old new at sets only another found is =
    ⊎_elim
    (λ same.
    subst (λ (p : List ℕ). is_path p ≡ true) (sym same)
    (at_path_case path lines found at (sym sets.at ∙ ap (get new) (sym same) ∙ is)))
    (λ differs. only another found (sym (sets.other another differs) ∙ is))
    (bytes_or_not another path)

-- what is no path of camp has no file
pub no_file : (path : List ℕ) (files : Files) → is_path path ≡ false → HasPathsOnly files → get files path ≡ None
no_file path files no_path only = by_cases (get files path) refl
  where
    by_cases : (found : Option Lines) → get files path ≡ found → found ≡ None
    by_cases None is = refl
    by_cases (Some lines) is = absurd (true≢false (sym (only path lines is) ∙ no_path))

at_path : (path : List ℕ) (lines : Option Lines) → is_path path ≡ true → AtPath path lines
at_path path None is = tt
at_path path (Some lines) is = is

-- the lines of a path of camp are set
pub placed : (path own : List ℕ) (lines : Option Lines) (old new : Files) → own ≡ path → is_path path ≡ true → SetsFile own lines old new → SetsPlace path lines old (Ok tt) new
placed path own lines old new same is sets =
    let here : SetsFile path lines old new = subst (λ (p : List ℕ). SetsFile p lines old new) same sets in (
      at_path path lines is,
      λ only. (here, paths_kept path lines old new (at_path path lines is) here only),
    )

-- no path of camp has no lines
pub refused : (path : List ℕ) (lines : Option Lines) (files : Files) (result : Result (Unit {0}) EncodeFault) → is_path path ≡ false → Refuses lines result → SetsPlace path lines files result files
refused path None files result no_path refuses =
    subst (λ (r : Result (Unit {0}) EncodeFault). SetsPlace path None files r files) (sym refuses)
    (tt, λ only. (cleared_none path files (no_file path files no_path only), only))
refused path (Some lines) files result no_path refuses =
    subst (λ (r : Result (Unit {0}) EncodeFault). SetsPlace path (Some lines) files r files) (sym refuses) no_path

-- a number for each place
abbrev pub place_code : Option Attribute → ℕ
place_code None = 0
place_code (Some ModeLine) = 109
place_code (Some LacksNewline) = 110
place_code (Some Wrapped) = 119
place_code (Some EmptyCommit) = 101

folder_code : (attribute : Attribute) → get_or (attribute_folder attribute) 1 0 ≡ place_code (Some attribute)
folder_code ModeLine = refl
folder_code LacksNewline = refl
folder_code Wrapped = refl
folder_code EmptyCommit = refl

-- two places with one path are one place of one path
pub places_differ : (place other : Option Attribute) (path another : List ℕ) → AreBytes path → AreBytes another → place_path place path ≡ place_path other another → (place_code place ≡ place_code other) × (path ≡ another)
places_differ None None path another bytes bytes' same = (refl, paths_differ path another bytes bytes' same)
places_differ None (Some b) path another bytes bytes' same = absurd (are_free b another path (sym same))
places_differ (Some a) None path another bytes bytes' same = absurd (are_free a path another same)
places_differ (Some a) (Some b) path another bytes bytes' same =
    let both = differ a b path another bytes bytes' same in (
      sym (folder_code a) ∙ ap (λ (folder : List ℕ). get_or folder 1 0) both.0 ∙ folder_code b,
      both.1,
    )

-- whether a path of camp is a place of a path of git
pub place_or_not : (camp_path path : List ℕ) → ((place : Option Attribute) × (camp_path ≡ place_path place path)) ⊎ ((place : Option Attribute) → ¬ (camp_path ≡ place_path place path))
place_or_not camp_path path =
    ⊎_elim (λ is. inl (None, is))
    (λ n0.
    ⊎_elim (λ is. inl (Some ModeLine, is))
    (λ n1.
    ⊎_elim (λ is. inl (Some LacksNewline, is))
    (λ n2.
    ⊎_elim (λ is. inl (Some Wrapped, is))
    (λ n3.
    ⊎_elim (λ is. inl (Some EmptyCommit, is)) (λ n4. inr (none n0 n1 n2 n3 n4))
    (bytes_or_not camp_path (place_path (Some EmptyCommit) path)))
    (bytes_or_not camp_path (place_path (Some Wrapped) path)))
    (bytes_or_not camp_path (place_path (Some LacksNewline) path)))
    (bytes_or_not camp_path (place_path (Some ModeLine) path)))
    (bytes_or_not camp_path (place_path None path))
  where
    none : ¬ (camp_path ≡ place_path None path) → ¬ (camp_path ≡ place_path (Some ModeLine) path) → ¬ (camp_path ≡ place_path (Some LacksNewline) path) → ¬ (camp_path ≡ place_path (Some Wrapped) path) → ¬ (camp_path ≡ place_path (Some EmptyCommit) path) → (place : Option Attribute) → ¬ (camp_path ≡ place_path place path)
    none n0 n1 n2 n3 n4 None = n0
    none n0 n1 n2 n3 n4 (Some ModeLine) = n1
    none n0 n1 n2 n3 n4 (Some LacksNewline) = n2
    none n0 n1 n2 n3 n4 (Some Wrapped) = n3
    none n0 n1 n2 n3 n4 (Some EmptyCommit) = n4
