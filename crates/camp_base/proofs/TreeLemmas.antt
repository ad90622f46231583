-- Trees by their files, and what the three changes want of them.
use Rattle.camp_base.proofs.Words.{Decides-and, ◌≡◌, ◌↔◌, ℕ, ◌+◌, ◌-◌, Bool, true, false, ◌&&◌, T, List, [], length, Option, is_some, arith, None, Some, Ok, Err, Result, IsTrue, eqb, sym, ap, subst, ◌∙◌, refl, Decides, nil_from_length, nat_tests, Decides-eqb, slice_eq-Decides, nat_cmp, slice_cmp, pointwise, splice, Steps, StandsAt, Lines, Files, Adds, Removes, Splices, SplicesLines}
use Rattle.std.proofs.lemmas.Bool.{false≢true}
use Rattle.std.proofs.lemmas.Option.{same_Some}
use Rattle.std.specs.FinMap.{entries, entries-from_sorted}
use Rattle.std.specs.FinMap.Entries.{is_sorted}
use Rattle.camp_share.specs.Maps.{map_of}
use Rattle.std.specs.FinMap as map
use Rattle.camp_base.specs.declared.faults.Apply.{Apply}
use Rattle.camp_base.specs.declared.faults.Apply.TheVariants.{DoesNotApply, Memory}
use Rattle.camp_base.specs.Answers.{Answers}
use Rattle.camp_base.proofs.LineLemmas.{spliced, stands}

-- whether two files are equal
abbrev pub same_file : List ℕ × Lines → List ℕ × Lines → Bool
same_file file other = pointwise eqb file.0 other.0 && pointwise (pointwise eqb) file.1 other.1

file_decided : (a b : List ℕ × Lines) → Decides (same_file a b) (a ≡ b)
file_decided a b =
    let both = Decides-and _ _ (slice_eq-Decides Decides-eqb a.0 b.0 _ refl) (slice_eq-Decides (λ l m. slice_eq-Decides Decides-eqb l m _ refl) a.1 b.1 _ refl) in
    (λ is i. ((both.0 is).0 i, (both.0 is).1 i), λ same. both.1 (ap (λ file. file.0) same, ap (λ file. file.1) same))

-- trees are equal where their files are
pub trees_decided : (files others : List (List ℕ × Lines)) (tree other : Files) → map_of (slice_cmp nat_cmp) files ≡ tree → map_of (slice_cmp nat_cmp) others ≡ other → T (is_sorted (slice_cmp nat_cmp) files) → T (is_sorted (slice_cmp nat_cmp) others) → (result : Bool) → result ≡ pointwise same_file files others → IsTrue result ↔ (tree ≡ other)
trees_decided files others tree other is other_is sorted other_sorted result answers =
    let both = slice_eq-Decides file_decided files others _ refl in (
      λ yes. sym is ∙ ap (map_of (slice_cmp nat_cmp)) (both.0 (sym answers ∙ yes)) ∙ other_is,
      λ same. answers
          ∙ both.1 (sym (entries-from_sorted (slice_cmp nat_cmp) files sorted) ∙ ap entries (is ∙ same ∙ sym other_is) ∙ entries-from_sorted (slice_cmp nat_cmp) others other_sorted),
    )

-- the last step of a change that applies
pub answered : (Change : Files → Files → Type 0) (old wanted new : Files) (result : Result (Unit {0}) Apply) → Change old wanted → Steps wanted old result new → Answers Change old result new
answered Change old wanted new (Ok done) change is = subst (Change old) (sym is) change
answered Change old wanted new (Err DoesNotApply) change is = absurd is
answered Change old wanted new (Err Memory) change is = ((wanted, change), is)

emptied : (lines : Lines) → true ≡ eqb (length lines) 0 → lines ≡ []
emptied lines is = nil_from_length lines (grind (arith, nat_tests))

-- a path without a file
unfound : (found : Option Lines) → is_some found ≡ false → found ≡ None
unfound None h = refl
unfound (Some lines) h = absurd (false≢true (sym h))

module _ (path : List ℕ) (tree : Files) where
  pub adds_file : (files : List (List ℕ × Lines)) (told : Bool) (lines : Lines) → map_of (slice_cmp nat_cmp) files ≡ tree → told ≡ map.contains_key (map_of (slice_cmp nat_cmp) files) path → told ≡ false → lines ≡ [] → Adds path tree (map.insert tree path lines)
  adds_file files told lines is answers untold none =
      record { absent = ap (λ t. map.get t path) (sym is) ∙ unfound _ (sym answers ∙ untold); becomes = ap (map.insert tree path) none }

  module _ (lines : Lines) (found : map.get tree path ≡ Some lines) where
    pub splices_lines : (line : ℕ) (gone come changed : Lines) → changed ≡ splice lines (line - 1) (line - 1 + length gone) come → StandsAt line gone lines → Splices path line gone come tree (map.insert tree path changed)
    splices_lines line gone come changed becomes at =
        record { lines = lines; changed = changed; found = found; splices = subst (SplicesLines line gone come lines) (sym becomes) (spliced line gone come lines at); becomes = refl }

    pub removes_file : (told : Bool) → told ≡ eqb (length lines) 0 → told ≡ true → Removes path tree (map.remove tree path)
    removes_file told answers is = record { empty = found ∙ ap Some (emptied lines (sym is ∙ answers)); becomes = refl }

    pub nowhere : (line : ℕ) (gone come : Lines) (new : Files) → ¬ (StandsAt line gone lines) → ¬ (Splices path line gone come tree new)
    nowhere line gone come new no_place splices =
        no_place (subst (StandsAt line gone) (same_Some _ _ (sym splices.found ∙ found)) (stands line gone come splices.lines splices.changed splices.splices))
