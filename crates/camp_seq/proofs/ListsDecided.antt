-- It is decidable whether lists commute, split and merge.
use Rattle.camp_seq.proofs.Words.{◌≡◌, ◌≢◌, zero, suc, List, [], ◌∷◌, refl, subst, inl, inr, arith, Contains, label_of, label_cmp, Label, Named, label_total, label_ties, Decided, decided_by, same_or_not, swap_or_not, swap_unique, CleanMerge, Splits, Passes, PassesAll, Parts, inverse_all}
use Rattle.camp_seq.proofs.ListResults.{one_pass_of_all, one_parting}
use Rattle.camp_seq.proofs.MergeGrid.{merge_is_passing, passing_merges}
use Rattle.camp_seq.proofs.NormalOrders.{has_normal_order}

-- a relation gives two results, or none
abbrev pub TwoOrNone : {A B : Type 0} → (A → B → Type 0) → Type 0
TwoOrNone {A} {B} Gives = Decided ((x : A) × (y : B) × Gives x y)

in_neither : {X : Type 0} (y x : X) (xs : List X) → y ≢ x → ¬ (Contains xs x) → ¬ (Contains (y ∷ xs) x)
in_neither y x xs other never (zero, within, is) = other is
in_neither y x xs other never (suc k, within, is) = never (k, (omega arith), is)

in_either : {X : Type 0} (y x : X) (xs : List X) → y ≢ x → Decided (Contains xs x) → Decided (Contains (y ∷ xs) x)
in_either y x xs other (inl w) = let within = w.1 in inl (suc w.0, (omega arith), w.2)
in_either y x xs other (inr never) = inr (in_neither y x xs other never)

-- an element is in a list or not
pub among_or_not : {X : Type 0} → ((x y : X) → Decided (x ≡ y)) → (xs : List X) (x : X) → Decided (Contains xs x)
among_or_not same [] x = inr (λ w. let within = w.1 in absurd (omega arith))
among_or_not same (y ∷ xs) x = elim (same y x) [
  | inl is ↦ inl (0, (omega arith), is)
  | inr other ↦ in_either y x xs other (among_or_not same xs x)
]

pub passes_or_not : (p : Named) (s : List Named) → TwoOrNone (Passes p s)
passes_or_not p [] = inl ([], p, (refl, refl))
passes_or_not p (q ∷ s) = elim (swap_or_not p q) [
  | inl w ↦ decided_by (λ r. (w.0 ∷ r.0, r.1, (w.0, w.1, r.0, w.2, r.2, refl))) (λ r.
      let pair = swap_unique p q r.2.0 r.2.1 w.0 w.1 r.2.3 w.2 in
      (r.2.2, r.1, subst (λ x. Passes x s r.2.2 r.1) pair.1 r.2.4)) (passes_or_not w.1 s)
  | inr never ↦ inr (λ r. never (r.2.0, r.2.1, r.2.3))
]

pub all_pass_or_not : (r s : List Named) → TwoOrNone (PassesAll r s)
all_pass_or_not [] s = inl (s, [], (refl, refl))
all_pass_or_not (p ∷ r) s = elim (all_pass_or_not r s) [
  | inl w ↦ decided_by (λ v. (v.0, v.1 ∷ w.1, (w.0, v.1, w.1, w.2, v.2, refl))) (λ v.
      let a = v.2 in
      let rest = one_pass_of_all r s a.0 w.0 a.2 w.1 a.3 w.2 in
      (v.0, a.1, subst (λ t. Passes p t v.0 a.1) rest.0 a.4)) (passes_or_not p w.0)
  | inr never ↦ inr (λ v. let a = v.2 in never (a.0, a.2, a.3))
]

pub clean_merge_or_not : (a b : List Named) → TwoOrNone (CleanMerge a b)
clean_merge_or_not a b =
    decided_by (λ w. (w.0, inverse_all w.1, passing_merges a b w.0 w.1 w.2)) (λ w. (w.0, inverse_all w.1, (merge_is_passing a b w.0 w.1).0 w.2)) (all_pass_or_not (inverse_all a) b)

label_or_not : (l m : Label) → Decided (l ≡ m)
label_or_not = same_or_not label_cmp label_total label_ties

parts_or_not : (labels : List Label) (s : List Named) → TwoOrNone (Parts labels s)
parts_or_not labels [] = inl ([], [], (refl, refl))
parts_or_not labels (p ∷ s) = elim (among_or_not label_or_not labels (label_of p)) [
  | inl among ↦ decided_by (λ w. (p ∷ w.0, w.1, inl (among, (w.0, w.2, refl)))) (λ w. elim w.2 [
    | inl v ↦ (v.1.0, w.1, v.1.1)
    | inr v ↦ absurd (v.0 among)
  ]) (parts_or_not labels s)
  | inr other ↦ elim (parts_or_not labels s) [
    | inl w ↦ decided_by (λ v. (v.0, v.1 ∷ w.1, inr (other, (w.0, w.1, v.1, w.2, v.2, refl)))) (λ u. elim u.2 [
      | inl v ↦ absurd (other v.0)
      | inr v ↦
          let a = v.1 in
          let rest = one_parting labels s a.0 a.1 w.0 w.1 a.3 w.2 in
          (u.0, a.2, subst (λ g. Passes p g u.0 a.2) rest.0 a.4)
    ]) (passes_or_not p w.0)
    | inr never ↦ inr (λ u. elim u.2 [ inl v ↦ other v.0 | inr v ↦ let a = v.1 in never (a.0, a.1, a.3) ])
  ]
]

pub splits_or_not : (labels : List Label) (s : List Named) → TwoOrNone (Splits labels s)
splits_or_not labels s =
    decided_by (λ w.
    let first = has_normal_order w.0 in
    let rest = has_normal_order w.1 in
    (first.0, rest.0, record { named = w.0; others = w.1; parts = w.2; first = first.1; rest = rest.1 })) (λ w. (w.2.named, w.2.others, w.2.parts)) (parts_or_not labels s)
