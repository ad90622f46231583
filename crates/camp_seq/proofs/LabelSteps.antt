-- Tries labels in ascending order.
use Rattle.camp_seq.proofs.Words.{◌≡◌, ◌≢◌, ℕ, zero, suc, ◌+◌, ◌<◌, ◌≤◌, Bool, true, false, if◌then◌else◌, List, [], ◌∷◌, Option, None, Some, length, take, get_or, IsTrue, refl, sym, ap, subst, inl, inr, arith, All-more, All-weaker, Less, label_of, label_cmp, Label, Named, label_total, less_unless, not_below, less_from_lt, is_above, StartsAbove, HasLabel, NoneLess, LeastAbove, untried, MovesLeastToFront, IsLeast, Fronts, take_all}
use Rattle.std.specs.Ordering.{is_lt}
use Rattle.camp_seq.proofs.LabelsKept.{each_at_front}
use Rattle.camp_seq.proofs.ListResults.{label-front}

holds_at : (s : List Named) (i : ℕ) (d : Named) → i < length s → HasLabel (label_of (get_or s i d)) s
holds_at [] i d within = absurd (omega arith)
holds_at (p ∷ s) zero d within = inl refl
holds_at (p ∷ s) (suc i) d within = inr (holds_at s i d (omega arith))

-- the least of the labels not yet tried, among the elements checked so far
pub record LeastSoFar (tried : Option Label) (s : List Named) (n : ℕ) (label : Label) : Type 0 where
  pub above : IsTrue (is_above tried label)
  pub held : HasLabel label s
  pub least : NoneLess tried label (take n s)

pub next_is_less : (tried : Option Label) (s : List Named) (i : ℕ) (d : Named) (l least : Label) → i < length s → l ≡ label_of (get_or s i d) → IsTrue (is_above tried l) × (label_cmp l least ≡ Less) → LeastSoFar tried s i least → LeastSoFar tried s (i + 1) l
next_is_less tried s i d l least within is less so_far =
    let P = λ (m : Label) (p : Named). IsTrue (is_above tried (label_of p)) → label_cmp (label_of p) m ≢ Less in
    record {
      above = less.0;
      held = subst (λ x. HasLabel x s) (sym is) (holds_at s i d within);
      least = All-more (P l) s i d within (All-weaker (P least) (P l) (λ p none above below. none above (label_total.trans (label_of p) l least below less.1)) (take i s) so_far.least) (λ above. not_below _ l (sym is));
    }

pub next_is_not : (tried : Option Label) (s : List Named) (i : ℕ) (d : Named) (l least : Label) → i < length s → l ≡ label_of (get_or s i d) → ¬ (IsTrue (is_above tried l) × (label_cmp l least ≡ Less)) → LeastSoFar tried s i least → LeastSoFar tried s (i + 1) least
next_is_not tried s i d l least within is not so_far =
    let P = λ (p : Named). IsTrue (is_above tried (label_of p)) → label_cmp (label_of p) least ≢ Less in
    record {
      above = so_far.above;
      held = so_far.held;
      least = All-more P s i d within so_far.least (subst (λ x. IsTrue (is_above tried x) → label_cmp x least ≢ Less) is (λ above below. not (above, below)));
    }

pub least_of_all : (tried : Option Label) (s : List Named) (n : ℕ) (label : Label) → length s ≤ n → LeastSoFar tried s n label → LeastAbove tried s label
least_of_all tried s n label all w =
    record { above = w.above; held = w.held; least = subst (NoneLess tried label) (take_all n s all) w.least }

-- no label that can be moved to the front is less than the least label
fronts_none_less : (tried : Option Label) (least other : Label) (s : List Named) (y : Named) (t : List Named) → NoneLess tried least s → Fronts other s y t → IsTrue (is_above tried other) → label_cmp other least ≢ Less
fronts_none_less tried least other s y t none w above =
    each_at_front (λ l. IsTrue (is_above tried l) → label_cmp l least ≢ Less) other s y t w none above

-- the first element of a list is one that can be moved to the front, so a label is found
pub starts_above : (tried : Option Label) (s : List Named) → 0 < length s → ((other : Label) (y : Named) (t : List Named) → Fronts other s y t → IsTrue (is_above tried other)) → StartsAbove tried s
starts_above tried [] some above = absurd (omega arith)
starts_above tried (p ∷ s) some above = above (label_of p) p s (inl (refl, refl, refl))

-- if the least label can't be moved to the front, all that can are above it
pub above_least : (tried : Option Label) (key : Label) (s : List Named) → LeastAbove tried s key → ((y : Named) (t : List Named) → ¬ (Fronts key s y t)) → (other : Label) (y : Named) (t : List Named) → Fronts other s y t → IsTrue (is_above tried other) → IsTrue (is_above (Some key) other)
above_least tried key s least never other y t w above =
    ap is_lt (less_unless other key (fronts_none_less tried key other s y t least.least w above) (λ e. never y t (subst (λ x. Fronts x s y t) e w)))

one_le : (a b : Bool) → (IsTrue a → IsTrue b) → (if a then 1 else 0) ≤ (if b then 1 else 0)
one_le true true h = omega arith
one_le true false h = let e : false ≡ true = h refl in cc
one_le false true h = omega arith
one_le false false h = omega arith

none_one : (a b : Bool) → ¬ (IsTrue a) → IsTrue b → (if a then 1 else 0) < (if b then 1 else 0)
none_one true b h k = absurd (h refl)
none_one false true h k = omega arith
none_one false false h k = cc

-- labels above the key are above the label tried before it too
further : (tried : Option Label) (key : Label) (other : Label) → IsTrue (is_above tried key) → IsTrue (is_above (Some key) other) → IsTrue (is_above tried other)
further None key other above more = refl
further (Some last) key other above more =
    ap is_lt (label_total.trans last key other (less_from_lt (label_cmp last key) above) (less_from_lt (label_cmp key other) more))

untried_le : (tried : Option Label) (key : Label) (s : List Named) → IsTrue (is_above tried key) → untried (Some key) s ≤ untried tried s
untried_le tried key [] above = omega arith
untried_le tried key (p ∷ s) above =
    let l = label_of p in
    omega (arith, one_le (is_above (Some key) l) (is_above tried l) (further tried key l above), untried_le tried key s above)

-- each label that is tried leaves fewer
pub untried_less : (tried : Option Label) (key : Label) (s : List Named) → IsTrue (is_above tried key) → HasLabel key s → untried (Some key) s < untried tried s
untried_less tried key [] above held = absurd held
untried_less tried key (p ∷ s) above (inl is) =
    let l = label_of p in
    let itself : ¬ (IsTrue (is_above (Some key) l)) = λ more. not_below key key refl (less_from_lt (label_cmp key key) (subst (λ x. IsTrue (is_lt (label_cmp key x))) is more)) in
    omega (arith, none_one (is_above (Some key) l) (is_above tried l) itself (subst (λ x. IsTrue (is_above tried x)) (sym is) above), untried_le tried key s above)
untried_less tried key (p ∷ s) above (inr held) =
    let l = label_of p in
    omega (arith, one_le (is_above (Some key) l) (is_above tried l) (further tried key l above), untried_less tried key s above held)

-- the least label that can be moved to the front, moved there
pub settles_from : (tried : Option Label) (label : Label) (s : List Named) (y : Named) (t now : List Named) → LeastAbove tried s label → ((other : Label) (z : Named) (u : List Named) → Fronts other s z u → IsTrue (is_above tried other)) → Fronts label s y t → now ≡ y ∷ t → MovesLeastToFront s now
settles_from tried label s y t now least above w is =
    let labelled = label-front label s y t w in
    let is_least : IsLeast label s = λ other z u f. fronts_none_less tried label other s z u least.least f (above other z u f) in
    record {
      first = y;
      rest = t;
      fronts = subst (λ l. Fronts l s y t) (sym labelled) w;
      least = subst (λ l. IsLeast l s) (sym labelled) is_least;
      is = is;
    }
