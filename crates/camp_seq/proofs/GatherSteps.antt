-- Gathers the elements with given labels at the front, from the last to the first.
use Rattle.camp_seq.proofs.Words.{◌≡◌, ℕ, ◌+◌, ◌<◌, List, [], ◌∷◌, ◌++◌, length, take, drop, get_or, refl, sym, ap, ◌∙◌, subst, inl, inr, arith, Contains, append_assoc, length-take-le, drop_more, take_at, drop_at, put_mid, label_of, Label, Named, FirstPasses, PartsFrom, Passes, Parts}
use Rattle.camp_seq.proofs.ListResults.{one_parting}
use Rattle.camp_seq.proofs.ListSteps.{at_last, shorter, whole}

-- an element with one of the labels stays at its position
pub parts_named : (labels : List Label) (s0 s : List Named) (i count : ℕ) (d : Named) → i < length s → length s ≡ length s0 → PartsFrom labels s0 (i + 1) count s → Contains labels (label_of (get_or s i d)) → PartsFrom labels s0 i (count + 1) s
parts_named labels s0 s i count d within same w named =
    let p : Named = get_or s i d in
    let next : drop i s0 ≡ p ∷ drop (i + 1) s0 = at_last s0 s i d (omega arith) w.waiting in
    record {
      named = p ∷ w.named;
      others = w.others;
      parts = subst (λ x. Parts labels x (p ∷ w.named) w.others) (sym next) (inl (named, (w.named, w.parts, refl)));
      is = drop_more s i d within ∙ ap (λ x. p ∷ x) w.is;
      counted = omega arith;
      waiting = shorter s0 s i w.waiting;
    }

pub length-passes : (p : Named) (s s' : List Named) (p' : Named) → Passes p s s' p' → length s' ≡ length s
length-passes p [] s' p' m = ap length m.0
length-passes p (q ∷ s) s' p' m = omega (arith, ap length m.5, length-passes m.1 s m.2 p' m.4)

-- the element at i, and after it the gathered elements
window : (labels : List Label) (s0 s : List Named) (i count k : ℕ) (d : Named) → i < length s → PartsFrom labels s0 (i + 1) count s → k ≡ count + 1 → (w : PartsFrom labels s0 (i + 1) count s) → (take k (drop i s) ≡ get_or s i d ∷ w.named) × (drop k (drop i s) ≡ w.others)
window labels s0 s i count k d within v k_is w =
    let p : Named = get_or s i d in
    let from : drop i s ≡ (p ∷ w.named) ++ w.others = drop_more s i d within ∙ ap (λ x. p ∷ x) w.is in
    let long : length (p ∷ w.named) ≡ k = omega arith in
    (ap (take k) from ∙ take_at (p ∷ w.named) w.others k long, ap (drop k) from ∙ drop_at (p ∷ w.named) w.others k long)

-- another element is commuted past the gathered ones
pub parts_other : (labels : List Label) (s0 s part new : List Named) (i count k : ℕ) (d : Named) → i < length s → length s ≡ length s0 → k ≡ count + 1 → PartsFrom labels s0 (i + 1) count s → ¬ (Contains labels (label_of (get_or s i d))) → part ≡ take k (drop i s) → FirstPasses part new → PartsFrom labels s0 i count (put_mid i k s new)
parts_other labels s0 s part new i count k d within same k_is w other part_is first =
    let q : Named = get_or s i d in
    let cut = window labels s0 s i count k d within w k_is w in
    let (rest', p', passed, new_is) = subst (λ x. FirstPasses x new) (part_is ∙ cut.0) first in
    let next : drop i s0 ≡ q ∷ drop (i + 1) s0 = at_last s0 s i d (omega arith) w.waiting in
    let long : length (take i s) ≡ i = length-take-le i s (omega arith) in
    let written : put_mid i k s new ≡ take i s ++ (rest' ++ p' ∷ w.others) =
    ap (λ x. take i s ++ (new ++ x)) cut.1 ∙ ap (λ x. take i s ++ (x ++ w.others)) new_is ∙ ap (λ x. take i s ++ x) (append_assoc rest' (p' ∷ []) w.others) in
    record {
      named = rest';
      others = p' ∷ w.others;
      parts = subst (λ x. Parts labels x rest' (p' ∷ w.others)) (sym next) (inr (other, (w.named, w.others, p', w.parts, passed, refl)));
      is = ap (drop i) written ∙ drop_at (take i s) (rest' ++ p' ∷ w.others) i long;
      counted = length-passes q w.named rest' p' passed ∙ w.counted;
      waiting = ap (take i) written ∙ take_at (take i s) (rest' ++ p' ∷ w.others) i long ∙ shorter s0 s i w.waiting;
    }

stop : (labels : List Label) (before : List Named) (q : Named) (s g u f t : List Named) → Parts labels s g u → ¬ (Contains labels (label_of q)) → ((x : List Named) (y : Named) → ¬ (Passes q g x y)) → ¬ (Parts labels (before ++ q ∷ s) f t)
stop labels [] q s g u f t m other never (inl v) = other v.0
stop labels [] q s g u f t m other never (inr v) =
    let a = v.1 in
    let rest = one_parting labels s a.0 a.1 g u a.3 m in
    never f a.2 (subst (λ x. Passes q x f a.2) rest.0 a.4)
stop labels (x ∷ before) q s g u f t m other never (inl v) = let a = v.1 in stop labels before q s g u a.0 t m other never a.1
stop labels (x ∷ before) q s g u f t m other never (inr v) =
    let a = v.1 in stop labels before q s g u a.0 a.1 m other never a.3

-- if another element can't be commuted past them, the list can't be split
pub parts_stop : (labels : List Label) (s0 s part : List Named) (i count k : ℕ) (d : Named) → i < length s → length s ≡ length s0 → k ≡ count + 1 → PartsFrom labels s0 (i + 1) count s → ¬ (Contains labels (label_of (get_or s i d))) → part ≡ take k (drop i s) → ((any : List Named) → ¬ (FirstPasses part any)) → (f t : List Named) → ¬ (Parts labels s0 f t)
parts_stop labels s0 s part i count k d within same k_is w other part_is never f t m =
    let q : Named = get_or s i d in
    let cut = window labels s0 s i count k d within w k_is w in
    let next : drop i s0 ≡ q ∷ drop (i + 1) s0 = at_last s0 s i d (omega arith) w.waiting in
    let stuck : (x : List Named) (y : Named) → ¬ (Passes q w.named x y) = λ x y v. never (x ++ y ∷ []) (subst (λ z. FirstPasses z (x ++ y ∷ [])) (sym (part_is ∙ cut.0)) (x, y, v, refl)) in
    stop labels (take i s0) q (drop (i + 1) s0) w.named w.others f t w.parts other stuck (subst (λ x. Parts labels x f t) (whole s0 i (q ∷ drop (i + 1) s0) next) m)
