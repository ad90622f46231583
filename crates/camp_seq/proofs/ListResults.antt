-- Each relation of lists has at most one result.
use Rattle.camp_seq.proofs.Words.{◌≡◌, inl, inr, List, [], ◌∷◌, refl, sym, ap, ◌∙◌, subst, label_of, Label, Commute, Named, same_label, swap_unique, inverse_all, AreDetermined, CleanMerge, Norm, Splits, Passes, PassesAll, Fronts, Parts}
use Rattle.camp_seq.proofs.ListRuns.{inverse_all-inverse_all}
use Rattle.camp_seq.proofs.MergeGrid.{merge_passes}

pub one_pass : (p : Named) (s s' t : List Named) (p' q : Named) → Passes p s s' p' → Passes p s t q → (s' ≡ t) × (p' ≡ q)
one_pass p [] s' t p' q v w = (v.0 ∙ sym w.0, v.1 ∙ sym w.1)
one_pass p (x ∷ s) s' t p' q v w =
    let pair = swap_unique p x v.0 v.1 w.0 w.1 v.3 w.3 in
    let rest = one_pass w.1 s v.2 w.2 p' q (subst (λ y. Passes y s v.2 p') pair.1 v.4) w.4 in
    (v.5 ∙ ap (λ y. y ∷ v.2) pair.0 ∙ ap (λ y. w.0 ∷ y) rest.0 ∙ sym w.5, rest.1)

pub one_pass_of_all : (r s s' t r' q : List Named) → PassesAll r s s' r' → PassesAll r s t q → (s' ≡ t) × (r' ≡ q)
one_pass_of_all [] s s' t r' q v w = (v.0 ∙ sym w.0, v.1 ∙ sym w.1)
one_pass_of_all (p ∷ r) s s' t r' q v w =
    let rest = one_pass_of_all r s v.0 w.0 v.2 w.2 v.3 w.3 in
    let pass = one_pass p w.0 s' t v.1 w.1 (subst (λ y. Passes p y s' v.1) rest.0 v.4) w.4 in
    (pass.0, v.5 ∙ ap (λ y. y ∷ v.2) pass.1 ∙ ap (λ y. w.1 ∷ y) rest.1 ∙ sym w.5)

pub one_front : (label : Label) (s t u : List Named) (y z : Named) → Fronts label s y t → Fronts label s z u → (y ≡ z) × (t ≡ u)
one_front label [] t u y z v w = absurd v
one_front label (p ∷ s) t u y z (inl v) (inl w) = (v.1 ∙ sym w.1, v.2 ∙ sym w.2)
one_front label (p ∷ s) t u y z (inl v) (inr w) = absurd (w.0 v.0)
one_front label (p ∷ s) t u y z (inr v) (inl w) = absurd (v.0 w.0)
one_front label (p ∷ s) t u y z (inr v) (inr w) =
    let rest = one_front label s v.1.2 w.1.2 v.1.0 w.1.0 v.1.3 w.1.3 in
    let pair = swap_unique p w.1.0 y v.1.1 z w.1.1 (subst (λ x. Commute p x y v.1.1) rest.0 v.1.4) w.1.4 in
    (pair.0, v.1.5 ∙ ap (λ x. x ∷ v.1.2) pair.1 ∙ ap (λ x. w.1.1 ∷ x) rest.1 ∙ sym w.1.5)

pub one_parting : (labels : List Label) (s f t g u : List Named) → Parts labels s f t → Parts labels s g u → (f ≡ g) × (t ≡ u)
one_parting labels [] f t g u v w = (v.0 ∙ sym w.0, v.1 ∙ sym w.1)
one_parting labels (p ∷ s) f t g u (inl v) (inl w) =
    let rest = one_parting labels s v.1.0 t w.1.0 u v.1.1 w.1.1 in
    (v.1.2 ∙ ap (λ x. p ∷ x) rest.0 ∙ sym w.1.2, rest.1)
one_parting labels (p ∷ s) f t g u (inl v) (inr w) = absurd (w.0 v.0)
one_parting labels (p ∷ s) f t g u (inr v) (inl w) = absurd (v.0 w.0)
one_parting labels (p ∷ s) f t g u (inr v) (inr w) =
    let rest = one_parting labels s v.1.0 v.1.1 w.1.0 w.1.1 v.1.3 w.1.3 in
    let pass = one_pass p w.1.0 f g v.1.2 w.1.2 (subst (λ x. Passes p x f v.1.2) rest.0 v.1.4) w.1.4 in
    (pass.0, v.1.5 ∙ ap (λ x. x ∷ v.1.1) pass.1 ∙ ap (λ x. w.1.2 ∷ x) rest.1 ∙ sym w.1.5)

-- the element that is moved to the front for a label has this label
pub label-front : (label : Label) (s : List Named) (y : Named) (t : List Named) → Fronts label s y t → label_of y ≡ label
label-front label [] y t w = absurd w
label-front label (p ∷ s) y t (inl w) = ap label_of w.1 ∙ w.0
label-front label (p ∷ s) y t (inr w) = w.1.4.anywhere.second ∙ label-front label s w.1.0 w.1.2 w.1.3

pub one_order : (s t u : List Named) → Norm s t → Norm s u → t ≡ u
one_order s [] [] v w = refl
one_order s [] (z ∷ u) v w = absurd (subst (λ x. Fronts (label_of z) x z w.0) v w.1)
one_order s (y ∷ t) [] v w = absurd (subst (λ x. Fronts (label_of y) x y v.0) w v.1)
one_order s (y ∷ t) (z ∷ u) v w =
    let labels = same_label (label_of y) (label_of z) (w.2 (label_of y) y v.0 v.1) (v.2 (label_of z) z w.0 w.1) in
    let front = one_front (label_of z) s v.0 w.0 y z (subst (λ l. Fronts l s y v.0) labels v.1) w.1 in
    ap (λ x. x ∷ t) front.0 ∙ ap (λ x. z ∷ x) (one_order w.0 t u (subst (λ x. Norm x t) front.1 v.3) w.3)

pub one_split : (labels : List Label) (s f t g u : List Named) → Splits labels s f t → Splits labels s g u → (f ≡ g) × (t ≡ u)
one_split labels s f t g u v w =
    let parts = one_parting labels s v.named v.others w.named w.others v.parts w.parts in
    (one_order w.named f g (subst (λ x. Norm x f) parts.0 v.first) w.first, one_order w.others t u (subst (λ x. Norm x t) parts.1 v.rest) w.rest)

pub one_clean_merge : (a b b' a' c d : List Named) → CleanMerge a b b' a' → CleanMerge a b c d → (b' ≡ c) × (a' ≡ d)
one_clean_merge a b b' a' c d v w =
    let rest = one_pass_of_all (inverse_all a) b b' c (inverse_all a') (inverse_all d) (merge_passes a b b' a' v) (merge_passes a b c d w) in
    (rest.0, sym (inverse_all-inverse_all a') ∙ ap inverse_all rest.1 ∙ inverse_all-inverse_all d)

pub are_determined : AreDetermined
are_determined = record {
  passes = one_pass;
  passes_all = one_pass_of_all;
  fronts = one_front;
  splits = one_split;
  norm = one_order;
  merges = one_clean_merge;
}
