-- Trees that git can hold, where their new files are free.
use Rattle.camp_git.proofs.Words.{◌≡◌, ℕ, Bool, List, [], ◌∷◌, ◌||◌, ◌∙◌, true, false, true≢false, refl, sym, ap, subst, inl, inr, map, slice_cmp, nat_cmp, contains_key, contains_key-keys, entries, eq_by_cmp, list_any, bytes_eq-Decides, Files}
use Rattle.std.specs.FinMap.{FinMap}
use Rattle.std.proofs.lemmas.Bool.{cases_Bool}
use Rattle.std.proofs.lemmas.Map.Text.{is_eq-slice_cmp}
use Rattle.camp_git.specs.FastImport.{is_inside}
use Rattle.camp_git.specs.Holding.{CanHold, CannotHold}
use Rattle.camp_git.specs.Inside.Finding.{IsFree, IsFreeIfNew}

-- a set of paths
abbrev pub Paths : Type 0
Paths = FinMap (slice_cmp nat_cmp) (Unit {0})

-- whether a path is among those of entries
abbrev pub has_entry : List (List ℕ × Unit {0}) → List ℕ → Bool
has_entry rest path = list_any (eq_by_cmp (slice_cmp nat_cmp) path) (map (λ e. e.0) rest)

-- the new files of a tree are free but for those of a rest
abbrev pub AreFree : Files → Files → List (List ℕ × Unit {0}) → List (List ℕ × Unit {0}) → Type 0
AreFree old new all rest =
    (path : List ℕ) → has_entry all path ≡ true → has_entry rest path ≡ false → IsFreeIfNew old new path

module _ (old new : Files) where
  pub one_free : (all rest more : List (List ℕ × Unit {0})) (e : List ℕ × Unit {0}) → rest ≡ e ∷ more → IsFreeIfNew old new e.0 → AreFree old new all rest → AreFree old new all more
  one_free all rest more e is free before path has lacks = elim (cases_Bool (eq_by_cmp (slice_cmp nat_cmp) path e.0)) [
    | inl same ↦ subst (IsFreeIfNew old new) (sym ((bytes_eq-Decides path e.0).0 (sym (is_eq-slice_cmp path e.0) ∙ same))) free
    | inr other ↦ before path has (ap (λ r. has_entry r path) is ∙ ap (λ b. b || has_entry more path) other ∙ lacks)
  ]

  module _ (paths : Paths) (held : CanHold old) (others : (path : List ℕ) → contains_key paths path ≡ false → contains_key new path ≡ contains_key old path) (free : AreFree old new (entries paths) []) where
    come : (path : List ℕ) → contains_key new path ≡ true → contains_key old path ≡ false → IsFree new path
    come path has lacks = elim (cases_Bool (contains_key paths path)) [
      | inl there ↦ free path (sym (contains_key-keys paths path) ∙ there) refl lacks has
      | inr apart ↦ absurd (true≢false (sym has ∙ others path apart ∙ lacks))
    ]

    inside_held : (path other : List ℕ) → contains_key new path ≡ true → contains_key new other ≡ true → is_inside path other ≡ true → ⊥
    inside_held path other has comes inside = elim (cases_Bool (contains_key old path)) [
      | inl was ↦ elim (cases_Bool (contains_key old other)) [
        | inl both ↦ held path was (inr (other, both, inside))
        | inr lacks ↦ true≢false (sym inside ∙ (come other comes lacks).alone path has)
      ]
      | inr lacks ↦ (come path has lacks).empty (other, comes, inside)
    ]

    not_held : (path : List ℕ) → contains_key new path ≡ true → CannotHold new path → ⊥
    not_held path has (inl part) = elim (cases_Bool (contains_key old path)) [
      | inl was ↦ held path was (inl part)
      | inr lacks ↦ true≢false (sym part ∙ (come path has lacks).plain)
    ]
    not_held path has (inr (other, comes, inside)) = inside_held path other has comes inside

    pub all_held : CanHold new
    all_held path has = not_held path has
