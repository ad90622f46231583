-- Moves the first element with a label to the front.
use Rattle.camp_seq.proofs.Words.{◌≡◌, ◌≢◌, ℕ, List, [], ◌∷◌, ◌++◌, map, Contains, refl, sym, ap, ◌∙◌, inl, inr, arith, map-append, All-head, All-tail, Contains-append_right, Contains-get_or, label_of, Label, Named, FirstWithLabel, LacksLabel, CommutesBeforeAll, Fronts, take, drop, get_or, length, ◌<◌, ◌+◌, drop_more, length-take-le}
use Rattle.camp_seq.proofs.ListSteps.{whole}
use Rattle.camp_seq.proofs.LabelsKept.{each_at_front}

-- a label that no element has can't be moved to the front
pub none_fronts : (label : Label) (s : List Named) (y : Named) (t : List Named) → LacksLabel label s → ¬ (Fronts label s y t)
none_fronts label s y t lacks w = each_at_front (λ l. l ≢ label) label s y t w lacks refl

-- an element with a label that can be moved to the front is in the list
pub first_contained : (label : Label) (s : List Named) (at : ℕ) → FirstWithLabel label s at → Contains (map label_of s) label
first_contained label s at w =
    let labels : map label_of s ≡ map label_of w.before ++ label_of w.first ∷ map label_of w.after = ap (map label_of) w.is ∙ map-append label_of w.before (w.first ∷ w.after) in
    rw (labels, sym w.labelled) (Contains-append_right (map label_of w.before) (label_of w.first ∷ map label_of w.after) (label_of w.first) (Contains-get_or (label_of w.first ∷ map label_of w.after) 0 (label_of w.first) (omega arith)))

-- the first element with the label is commuted past those before it
pub fronts_from : (label : Label) (before : List Named) (first : Named) (after : List Named) (y : Named) (moved : List Named) → LacksLabel label before → label_of first ≡ label → CommutesBeforeAll before first y moved → Fronts label (before ++ first ∷ after) y (moved ++ after)
fronts_from label [] first after y moved lacks is m = inl (is, m.0, ap (λ x. x ++ after) m.1)
fronts_from label (p ∷ before) first after y moved lacks is m =
    inr (All-head (λ x. label_of x ≢ label) p before lacks, (m.0, m.1, m.2 ++ after, fronts_from label before first after m.0 m.2 (All-tail (λ x. label_of x ≢ label) p before lacks) is m.3, m.4, ap (λ x. x ++ after) m.5))

-- conversely, an element at the front was commuted past those before it
pub precedes_from : (label : Label) (before : List Named) (first : Named) (after : List Named) (y : Named) (t : List Named) → LacksLabel label before → label_of first ≡ label → Fronts label (before ++ first ∷ after) y t → (moved : List Named) × CommutesBeforeAll before first y moved
precedes_from label [] first after y t lacks is (inl w) = ([], (w.1, refl))
precedes_from label [] first after y t lacks is (inr w) = absurd (w.0 is)
precedes_from label (p ∷ before) first after y t lacks is (inl w) = absurd (All-head (λ x. label_of x ≢ label) p before lacks w.0)
precedes_from label (p ∷ before) first after y t lacks is (inr w) =
    let found = w.1 in
    let rest = precedes_from label before first after found.0 found.2 (All-tail (λ x. label_of x ≢ label) p before lacks) is found.3 in
    (found.1 ∷ rest.0, (found.0, found.1, rest.0, rest.1, found.4, refl))

-- an element has the label, and no element before it has
pub first_with : (label : Label) (s : List Named) (at : ℕ) (p : Named) → at < length s → p ≡ get_or s at p → label_of p ≡ label → LacksLabel label (take at s) → FirstWithLabel label s at
first_with label s at p within is labelled lacks = record {
  before = take at s;
  first = p;
  after = drop (at + 1) s;
  is = whole s at _ (drop_more s at p within ∙ ap (λ x. x ∷ drop (at + 1) s) (sym is));
  stands = length-take-le at s (omega arith);
  labelled = labelled;
  lacks = lacks;
}
