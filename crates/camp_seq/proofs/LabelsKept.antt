-- A fact that holds of each label of a list still holds after a commute, a move to the front or sorting.
use Rattle.camp_seq.proofs.Words.{◌≡◌, List, [], ◌∷◌, refl, sym, ◌∙◌, subst, inl, inr, Contains, All, All-nil, All-cons, All-head, All-tail, All-same, label_of, Label, Named, SplitByLabels, Norm, Passes, Fronts, Parts}
use Rattle.camp_seq.proofs.ListResults.{label-front}

-- the fact holds of each label of the list
abbrev pub Each : (Label → Type 0) → List Named → Type 0
Each P s = All (λ p. P (label_of p)) s

pub each_front : (P : Label → Type 0) (label : Label) (s : List Named) (y : Named) (t : List Named) → Fronts label s y t → Each P s → P (label_of y) × Each P t
each_front P label [] y t w a = absurd w
each_front P label (p ∷ s) y t (inl w) a =
    let Q : Named → Type 0 = λ x. P (label_of x) in
    (subst Q (sym w.1) (All-head Q p s a), All-same Q t s w.2 (All-tail Q p s a))
each_front P label (p ∷ s) y t (inr w) a =
    let Q : Named → Type 0 = λ x. P (label_of x) in
    let f = w.1 in
    let rest = each_front P label s f.0 f.2 f.3 (All-tail Q p s a) in
    let own : P (label_of f.1) = subst P (sym f.4.anywhere.first) (All-head Q p s a) in
    (subst P (sym f.4.anywhere.second) rest.0, All-same Q t (f.1 ∷ f.2) f.5 (All-cons Q f.1 f.2 own rest.1))

-- and of a label that can be moved to the front
pub each_at_front : (P : Label → Type 0) (label : Label) (s : List Named) (y : Named) (t : List Named) → Fronts label s y t → Each P s → P label
each_at_front P label s y t w a = subst P (label-front label s y t w) (each_front P label s y t w a).0

each_norm : (P : Label → Type 0) (s t : List Named) → Norm s t → Each P s → Each P t
each_norm P s [] n a = All-nil (λ x. P (label_of x))
each_norm P s (y ∷ t) n a =
    let front = each_front P (label_of y) s y n.0 n.1 a in
    All-cons (λ x. P (label_of x)) y t front.0 (each_norm P n.0 t n.3 front.1)

each_passed : (P : Label → Type 0) (p : Named) (s s' : List Named) (p' : Named) → Passes p s s' p' → Each P s → Each P s' × (label_of p' ≡ label_of p)
each_passed P p [] s' p' m a = (All-same (λ x. P (label_of x)) s' [] m.0 a, subst (λ x. label_of x ≡ label_of p) (sym m.1) refl)
each_passed P p (q ∷ s) s' p' m a =
    let Q : Named → Type 0 = λ x. P (label_of x) in
    let rest = each_passed P m.1 s m.2 p' m.4 (All-tail Q q s a) in
    let own : P (label_of m.0) = subst P (sym m.3.anywhere.second) (All-head Q q s a) in
    (All-same Q s' (m.0 ∷ m.2) m.5 (All-cons Q m.0 m.2 own rest.0), rest.1 ∙ m.3.anywhere.first)

each_part : (labels : List Label) (s f t : List Named) → Parts labels s f t → Each (Contains labels) f × Each (λ l. ¬ (Contains labels l)) t
each_part labels [] f t w =
    (All-same (λ x. Contains labels (label_of x)) f [] w.0 (All-nil (λ x. Contains labels (label_of x))), All-same (λ x. ¬ (Contains labels (label_of x))) t [] w.1 (All-nil (λ x. ¬ (Contains labels (label_of x)))))
each_part labels (p ∷ s) f t (inl w) =
    let a = w.1 in
    let rest = each_part labels s a.0 t a.1 in
    (All-same (λ x. Contains labels (label_of x)) f (p ∷ a.0) a.2 (All-cons (λ x. Contains labels (label_of x)) p a.0 w.0 rest.0), rest.1)
each_part labels (p ∷ s) f t (inr w) =
    let a = w.1 in
    let rest = each_part labels s a.0 a.1 a.3 in
    let named = each_passed (Contains labels) p a.0 f a.2 a.4 rest.0 in
    let own : ¬ (Contains labels (label_of a.2)) = subst (λ l. ¬ (Contains labels l)) (sym named.1) w.0 in
    (named.0, All-same (λ x. ¬ (Contains labels (label_of x))) t (a.2 ∷ a.1) a.5 (All-cons (λ x. ¬ (Contains labels (label_of x))) a.2 a.1 own rest.1))

pub split_by_labels : SplitByLabels
split_by_labels labels s f t w =
    let parts = each_part labels s w.named w.others w.parts in
    (each_norm (Contains labels) w.named f w.first parts.0, each_norm (λ l. ¬ (Contains labels l)) w.others t w.rest parts.1)
