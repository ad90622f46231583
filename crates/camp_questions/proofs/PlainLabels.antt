-- In a lawful branch with plain catches only no label comes again.
use Rattle.camp_questions.proofs.Words.{◌≡◌, ◌≢◌, ◌≤◌, ℕ, zero, suc, ◌+◌, true≢false, List, [], ◌∷◌, ◌++◌, map, refl, sym, ap, ◌∙◌, subst, inl, inr, arith, key_of, label_of, Key, Named, AreDistinct, Contains, IsLawfulBranch, Patch, effect_of, flat_map, is_among_is, labels_from, labels_of, patch_names, Contains-append_cases, has_image, first_or_later, has_first, has_later, no_member, Plain, RepeatsRestoreLines, RestoresLines, map-map, catch_key}
use Rattle.camp_questions.proofs.KeptElements.{of_each}

-- none of some labels occurs twice
abbrev AreApart : List Key → Type 0
AreApart [] = Unit {0}
AreApart (key ∷ keys) = (¬ (Contains keys key)) × AreApart keys

-- the labels of one patch have its name, and ascending places from a first one on
of_patch : (name : List ℕ) (place changes : ℕ) (key : Key) → Contains (labels_from name place changes) key → (key.name ≡ name) × (place ≤ key.place)
of_patch name place zero key c = no_member key c
of_patch name place (suc changes) key c = elim (first_or_later (record { name = name; place = place }) key (labels_from name (place + 1) changes) c) [
  | inl is ↦ (ap (λ (k : Key). k.name) (sym is), omega (arith, ap (λ (k : Key). k.place) is))
  | inr later ↦
      let rest = of_patch name (place + 1) changes key later in
      (rest.0, omega (arith, rest.1))
]

apart_from : (name : List ℕ) (place changes : ℕ) (more : List Key) → ((key : Key) → Contains more key → key.name ≢ name) → AreApart more → AreApart (labels_from name place changes ++ more)
apart_from name place zero more others apart = apart
apart_from name place (suc changes) more others apart =
    let first : Key = record { name = name; place = place } in (
      (λ c. elim (Contains-append_cases (labels_from name (place + 1) changes) more first c) [
        | inl own ↦
            let behind : place + 1 ≤ place = (of_patch name (place + 1) changes first own).1 in
            absurd (omega (arith, behind))
        | inr other ↦ others first other refl
      ]),
      apart_from name (place + 1) changes more others apart,
    )

-- a label of some patches has the name of one of them
named : (patches : List Patch) (key : Key) → Contains (labels_of patches) key → Contains (patch_names patches) key.name
named [] key c = no_member key c
named (p ∷ patches) key c = elim (Contains-append_cases (labels_from p.name 1 p.changes) (labels_of patches) key c) [
  | inl own ↦ subst (Contains (patch_names (p ∷ patches))) (sym (of_patch p.name 1 p.changes key own).0) (has_first p.name (patch_names patches))
  | inr other ↦ has_later p.name key.name (patch_names patches) (named patches key other)
]

labels_apart : (patches : List Patch) → AreDistinct (patch_names patches) → AreApart (labels_of patches)
labels_apart [] distinct = tt
labels_apart (p ∷ patches) distinct =
    apart_from p.name 1 p.changes (labels_of patches)
    (λ key c same. true≢false (sym ((is_among_is (patch_names patches) p.name).0 (subst (Contains (patch_names patches)) same (named patches key c))) ∙ distinct.0))
    (labels_apart patches distinct.1)

-- the absolute labels of primitives
abbrev own_keys : List Named → List Key
own_keys s = map (λ p. key_of (label_of p)) s

none_again : (s : List Named) → AreApart (own_keys s) → RepeatsRestoreLines s
none_again [] apart = tt
none_again (p ∷ s) apart = (
  (λ hunk is. of_each (λ q. key_of (label_of p) ≡ key_of (label_of q) → RestoresLines hunk q.prim) s (λ q c same.
      absurd (apart.0 (subst (Contains (own_keys s)) (sym same) (has_image (λ (r : Named). key_of (label_of r)) s q c))))),
  none_again s apart.1,
)

-- the changes of plain catches are those of their patches
pub plain_effects : (s : List Named) → flat_map effect_of (map Plain s) ≡ s
plain_effects [] = refl
plain_effects (p ∷ s) = ap (λ l. p ∷ l) (plain_effects s)

-- so all labels that come again are inverses
pub inverses_alone : (s : List Named) → IsLawfulBranch (map Plain s) → RepeatsRestoreLines s
inverses_alone s lawful =
    none_again s (subst AreApart (sym lawful.has.labels ∙ map-map catch_key Plain s) (labels_apart lawful.patches lawful.has.distinct))
