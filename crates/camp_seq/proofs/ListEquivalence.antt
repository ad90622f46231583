-- Commuting past a list, moving to the front and splitting give equivalent lists.
use Rattle.camp_seq.proofs.Words.{◌≡◌, inl, inr, List, [], ◌∷◌, ◌++◌, sym, ap, ◌∙◌, subst, append_assoc, append-nil, label_of, Label, Commute, Named, ◌~◌, same, exchanged, backwards, through, AreEquivalent, Norm, Splits, Passes, PassesAll, Fronts, Parts}
use Rattle.camp_seq.proofs.ExchangeSteps.{at_front, exchanges_behind, exchanges_before}

-- equal lists are equivalent
pub equal_are : (s t : List Named) → s ≡ t → s ~ t
equal_are s t e = subst (λ x. s ~ x) e same

-- equivalent lists with the same prefix are equivalent
pub behind : (u s t : List Named) → s ~ t → (u ++ s) ~ (u ++ t)
behind u s t same = same
behind u s t (exchanged e) = exchanged (exchanges_behind u s t e)
behind u s t (backwards e) = backwards (behind u t s e)
behind u s t (through {t = r} e f) = through (behind u s r e) (behind u r t f)

-- and with the same suffix
pub before : (s t u : List Named) → s ~ t → (s ++ u) ~ (t ++ u)
before s t u same = same
before s t u (exchanged e) = exchanged (exchanges_before s t u e)
before s t u (backwards e) = backwards (before t s u e)
before s t u (through {t = r} e f) = through (before s r u e) (before r t u f)

-- joining equivalent lists gives equivalent lists
pub joined : (s t u v : List Named) → s ~ t → u ~ v → (s ++ u) ~ (t ++ v)
joined s t u v e f = through (before s t u e) (behind t u v f)

pub after_one : (p : Named) (s t : List Named) → s ~ t → (p ∷ s) ~ (p ∷ t)
after_one p s t e = behind (p ∷ []) s t e

pub swapped : (p q q' p' : Named) (s : List Named) → Commute p q q' p' → (p ∷ q ∷ s) ~ (q' ∷ p' ∷ s)
swapped p q q' p' s w =
    exchanged (at_front p q q' p' s w)

pub passed : (p : Named) (s s' : List Named) (p' : Named) → Passes p s s' p' → (p ∷ s) ~ (s' ++ p' ∷ [])
passed p [] s' p' r =
    equal_are (p ∷ []) (s' ++ p' ∷ []) (ap (λ x. x ∷ []) (sym r.1) ∙ ap (λ x. x ++ p' ∷ []) (sym r.0))
passed p (q ∷ s) s' p' r =
    through (swapped p q r.0 r.1 s r.3) (through (after_one r.0 (r.1 ∷ s) (r.2 ++ p' ∷ []) (passed r.1 s r.2 p' r.4)) (equal_are _ _ (ap (λ x. x ++ p' ∷ []) (sym r.5))))

pub all_passed : (r s s' r' : List Named) → PassesAll r s s' r' → (r ++ s) ~ (s' ++ r')
all_passed [] s s' r' w = equal_are s (s' ++ r') (sym w.0 ∙ sym (append-nil s') ∙ ap (λ x. s' ++ x) (sym w.1))
all_passed (p ∷ r) s s' r' w =
    through (after_one p (r ++ s) (w.0 ++ w.2) (all_passed r s w.0 w.2 w.3)) (through (before (p ∷ w.0) (s' ++ w.1 ∷ []) w.2 (passed p w.0 s' w.1 w.4)) (equal_are _ _ (append_assoc s' (w.1 ∷ []) w.2 ∙ ap (λ x. s' ++ x) (sym w.5))))

pub fronted : (label : Label) (s : List Named) (y : Named) (t : List Named) → Fronts label s y t → s ~ (y ∷ t)
fronted label [] y t w = absurd w
fronted label (p ∷ s) y t (inl w) = equal_are _ _ (ap (λ x. x ∷ s) (sym w.1) ∙ ap (λ x. y ∷ x) (sym w.2))
fronted label (p ∷ s) y t (inr w) =
    let found = w.1 in
    through (after_one p s (found.0 ∷ found.2) (fronted label s found.0 found.2 found.3)) (through (swapped p found.0 y found.1 found.2 found.4) (equal_are _ _ (ap (λ x. y ∷ x) (sym found.5))))

pub parted : (labels : List Label) (s f t : List Named) → Parts labels s f t → s ~ (f ++ t)
parted labels [] f t w = equal_are _ _ (ap (λ x. x ++ []) (sym w.0) ∙ ap (λ x. f ++ x) (sym w.1))
parted labels (p ∷ s) f t (inl w) =
    let rest = w.1 in
    through (after_one p s (rest.0 ++ t) (parted labels s rest.0 t rest.1)) (equal_are _ _ (ap (λ x. x ++ t) (sym rest.2)))
parted labels (p ∷ s) f t (inr w) =
    let rest = w.1 in
    through (after_one p s (rest.0 ++ rest.1) (parted labels s rest.0 rest.1 rest.3)) (through (before (p ∷ rest.0) (f ++ rest.2 ∷ []) rest.1 (passed p rest.0 f rest.2 rest.4)) (equal_are _ _ (append_assoc f (rest.2 ∷ []) rest.1 ∙ ap (λ x. f ++ x) (sym rest.5))))

pub ordered : (s t : List Named) → Norm s t → s ~ t
ordered s [] w = equal_are s [] w
ordered s (y ∷ t) w =
    through (fronted (label_of y) s y w.0 w.1) (after_one y w.0 t (ordered w.0 t w.3))

pub split : (labels : List Label) (s f t : List Named) → Splits labels s f t → s ~ (f ++ t)
split labels s f t w =
    through (parted labels s w.named w.others w.parts) (joined w.named f w.others t (ordered w.named f w.first) (ordered w.others t w.rest))

pub are_equivalent : AreEquivalent
are_equivalent = record { passed = passed; all_passed = all_passed; fronted = fronted; parted = parted; split = split; ordered = ordered }
