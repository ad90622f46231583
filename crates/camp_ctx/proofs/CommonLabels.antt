-- The labels that two lists have in common.
use Rattle.camp_ctx.proofs.Words.{◌≡◌, zero, suc, ◌⊎◌, Bool, true, false, cond, List, [], ◌∷◌, map, sym, subst, inl, inr, arith, filter, Equal-is, tied_itself, eq_by_cmp, label_of, label_cmp, Label, Named, Fronts, label_total, label_ties, has_label, common_labels, Contains}
use Rattle.std.proofs.lemmas.Bool.{or_cases, or_left, or_right}
use Rattle.std.proofs.lemmas.List.Elements.{All-contains, All-contains_itself, All-filter, filter_passes}

-- an element of a list, by recursion
abbrev pub IsIn : Label → List Label → Type 0
IsIn l [] = ⊥
IsIn l (x ∷ xs) = (x ≡ l) ⊎ IsIn l xs

pub in_from_contains : (l : Label) (xs : List Label) → Contains xs l → IsIn l xs
in_from_contains l [] (k, within, is) = absurd (omega arith)
in_from_contains l (x ∷ xs) (zero, within, is) = inl is
in_from_contains l (x ∷ xs) (suc k, within, is) = inr (in_from_contains l xs (k, (omega arith), is))

pub contains_from_in : (l : Label) (xs : List Label) → IsIn l xs → Contains xs l
contains_from_in l [] among = absurd among
contains_from_in l (x ∷ xs) (inl is) = (0, (omega arith), is)
contains_from_in l (x ∷ xs) (inr among) =
    let rest = contains_from_in l xs among in
    let within = rest.1 in
    (suc rest.0, (omega arith), rest.2)

same_label : (a b : Label) → eq_by_cmp label_cmp a b ≡ true → a ≡ b
same_label a b e = label_ties a b ((Equal-is _).0 e)

pub in_from_has : (t : List Named) (l : Label) → has_label t l ≡ true → IsIn l (map label_of t)
in_from_has [] l e = cc
in_from_has (p ∷ t) l e = elim (or_cases _ _ e) [ inl here ↦ inl (same_label _ _ here) | inr later ↦ inr (in_from_has t l later) ]

pub has_from_in : (t : List Named) (l : Label) → IsIn l (map label_of t) → has_label t l ≡ true
has_from_in [] l among = absurd among
has_from_in (p ∷ t) l (inl is) =
    or_left _ _ (subst (λ x. eq_by_cmp label_cmp (label_of p) x ≡ true) is ((Equal-is _).1 (tied_itself label_total (label_of p))))
has_from_in (p ∷ t) l (inr among) = or_right _ _ (has_from_in t l among)

kept : (b : Bool) (l x : Label) (xs : List Label) → IsIn l xs → IsIn l (cond b (x ∷ xs) xs)
kept true l x xs among = inr among
kept false l x xs among = among

pub filter_from_in : (test : Label → Bool) (l : Label) (xs : List Label) → test l ≡ true → IsIn l xs → IsIn l (filter test xs)
filter_from_in test l [] e among = absurd among
filter_from_in test l (x ∷ xs) e (inl is) =
    let here : test x ≡ true = subst (λ y. test y ≡ true) (sym is) e in
    subst (λ b. IsIn l (cond b (x ∷ filter test xs) (filter test xs))) (sym here) (inl is)
filter_from_in test l (x ∷ xs) e (inr among) = kept (test x) l x (filter test xs) (filter_from_in test l xs e among)

pub common_turned : (s t : List Named) (l : Label) → Contains (common_labels s t) l → Contains (common_labels t s) l
common_turned s t l among =
    let labels = map label_of s in
    let common = common_labels s t in
    let ours : Contains labels l = All-contains (Contains labels) common l (All-filter (has_label t) (Contains labels) labels (All-contains_itself labels)) among in
    let theirs : has_label t l ≡ true = All-contains (λ m. has_label t m ≡ true) common l (filter_passes (has_label t) labels) among in
    contains_from_in l (common_labels t s) (filter_from_in (has_label s) l (map label_of t) (has_from_in s l (in_from_contains l labels ours)) (in_from_has t l theirs))

-- an element that can be moved to the front of a list is in it
pub in_from_fronts : (l : Label) (s : List Named) (y : Named) (t : List Named) → Fronts l s y t → IsIn l (map label_of s)
in_from_fronts l [] y t w = absurd w
in_from_fronts l (p ∷ s) y t (inl w) = inl w.0
in_from_fronts l (p ∷ s) y t (inr w) = let found = w.1 in inr (in_from_fronts l s found.0 found.2 found.3)

-- a label that no element of a list has can't be moved to its front
pub none_fronts : (l : Label) (s : List Named) → has_label s l ≡ false → (y : Named) (t : List Named) → ¬ (Fronts l s y t)
none_fronts l s lacks y t w = let yes = has_from_in s l (in_from_fronts l s y t w) in cc
