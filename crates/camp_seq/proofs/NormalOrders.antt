-- Every list has a normal order.
use Rattle.camp_seq.proofs.Words.{◌≡◌, ◌≢◌, ℕ, zero, suc, ◌+◌, ◌≤◌, List, [], ◌∷◌, length, refl, sym, ap, subst, inl, inr, arith, Less, label_of, label_cmp, Label, Commute, Named, All-nil, All-cons, All-head, All-weaker, ◌⊎◌, label_total, label_ties, less_or_not, not_below, Decided, same_or_not, swap_or_not, HasNormalOrder, IsLeast, Norm, Fronts, decided_by}
use Rattle.camp_seq.proofs.LabelsKept.{Each, each_at_front}
use Rattle.camp_seq.proofs.ListResults.{one_front, label-front}

abbrev Front : Label → List Named → Type 0
Front label s = (y : Named) × (t : List Named) × Fronts label s y t

pub front_or_not : (label : Label) (s : List Named) → Decided (Front label s)
front_or_not label [] = inr (λ f. f.2)
front_or_not label (p ∷ s) = elim (same_or_not _ label_total label_ties (label_of p) label) [
  | inl e ↦ inl (p, s, inl (e, refl, refl))
  | inr other ↦ elim (front_or_not label s) [
    | inl f ↦ decided_by (λ w. (w.0, w.1 ∷ f.1, inr (other, (f.0, w.1, f.1, f.2, w.2, refl)))) (λ g. elim g.2 [
      | inl w ↦ absurd (other w.0)
      | inr w ↦
          let a = w.1 in
          let rest = one_front label s a.2 f.1 a.0 f.0 a.3 f.2 in
          (g.0, a.1, subst (λ x. Commute p x g.0 a.1) rest.0 a.4)
    ]) (swap_or_not p f.0)
    | inr never ↦ inr (λ g. elim g.2 [ inl w ↦ other w.0 | inr w ↦ let a = w.1 in never (a.0, a.2, a.3) ])
  ]
]

-- no label of these elements that can be moved to the front of the list is less than this one
abbrev LeastOf : List Named → Label → List Named → Type 0
LeastOf s label t = Each (λ l. Front l s → label_cmp l label ≢ Less) t

-- the least label of some elements that can be moved to the front of a list, or none of them can
least_of : (s t : List Named) → ((label : Label) × Front label s × LeastOf s label t) ⊎ Each (λ l. ¬ (Front l s)) t
least_of s [] = inr (All-nil (λ x. ¬ (Front (label_of x) s)))
least_of s (p ∷ t) =
    let l = label_of p in
    let Above = λ (least : Label) (x : Named). Front (label_of x) s → label_cmp (label_of x) least ≢ Less in
    elim (least_of s t) [
      | inr none ↦ elim (front_or_not l s) [
        | inr never ↦ inr (All-cons (λ x. ¬ (Front (label_of x) s)) p t never none)
        | inl f ↦
            inl (l, f, All-cons (Above l) p t (λ g. not_below l l refl) (All-weaker (λ x. ¬ (Front (label_of x) s)) (Above l) (λ x never g. absurd (never g)) t none))
      ]
      | inl b ↦ elim (less_or_not l b.0) [
        | inr not ↦ inl (b.0, b.1, All-cons (Above b.0) p t (λ g. not) b.2)
        | inl less ↦ elim (front_or_not l s) [
          | inr never ↦ inl (b.0, b.1, All-cons (Above b.0) p t (λ g. absurd (never g)) b.2)
          | inl f ↦
              inl (l, f, All-cons (Above l) p t (λ g. not_below l l refl) (All-weaker (Above b.0) (Above l) (λ x above g below. above g (label_total.trans (label_of x) l b.0 below less)) t b.2))
        ]
      ]
    ]

-- moving an element to the front keeps the number of elements
pub length_front : (label : Label) (s : List Named) (y : Named) (t : List Named) → Fronts label s y t → length s ≡ length t + 1
length_front label [] y t w = absurd w
length_front label (p ∷ s) y t (inl w) = omega (arith, ap length w.2)
length_front label (p ∷ s) y t (inr w) = omega (arith, ap length w.1.5, length_front label s w.1.0 w.1.2 w.1.3)

order_up_to : (n : ℕ) (s : List Named) → length s ≤ n → (t : List Named) × Norm s t
order_up_to n [] le = ([], refl)
order_up_to zero (p ∷ s) le = absurd (omega arith)
order_up_to (suc n) (p ∷ s) le = elim (least_of (p ∷ s) (p ∷ s)) [
  | inr none ↦
      absurd (All-head (λ x. ¬ (Front (label_of x) (p ∷ s))) p s none (p, s, inl (refl, refl, refl)))
  | inl (label, (y, rest, front), least) ↦
      let is = label-front label (p ∷ s) y rest front in
      let ordered = order_up_to n rest (omega (arith, length_front label (p ∷ s) y rest front)) in
      (y ∷ ordered.0, (rest, subst (λ l. Fronts l (p ∷ s) y rest) (sym is) front, subst (λ l. IsLeast l (p ∷ s)) (sym is) (λ other z t w. each_at_front (λ l. Front l (p ∷ s) → label_cmp l label ≢ Less) other (p ∷ s) z t w least (z, t, w)), ordered.1))
]

pub has_normal_order : HasNormalOrder
has_normal_order s = order_up_to (length s) s (omega arith)
