-- Texts of two lists side by side.
use Rattle.camp_talk.proofs.Words.{◌≡◌, ◌⊎◌, inl, inr, ℕ, List, [], ◌∷◌, ◌++◌, refl, sym, ap, ◌∙◌, append-nil, flat_map, zip}

-- one of two lists has ended
abbrev pub HasEnded : {X Y : Type 0} → List X → List Y → Type 0
HasEnded {X} {Y} xs ys = ((left : List X) × ((xs ≡ []) × (left ≡ []))) ⊎ ((left : List Y) × ((ys ≡ []) × (left ≡ [])))

-- no pair is left then
no_pair : {X Y : Type 0} (f : X × Y → List ℕ) (xs : List X) (ys : List Y) → HasEnded xs ys → flat_map f (zip xs ys) ≡ []
no_pair f [] ys ends = refl
no_pair f (x ∷ xs) [] ends = refl
no_pair f (x ∷ xs) (y ∷ ys) (inl (left, (none, rest))) = cc
no_pair f (x ∷ xs) (y ∷ ys) (inr (left, (none, rest))) = cc

-- and a text is whole
pub all_pairs : {X Y : Type 0} (f : X × Y → List ℕ) (xs : List X) (ys : List Y) (text whole : List ℕ)
    → HasEnded xs ys → text ++ flat_map f (zip xs ys) ≡ whole → text ≡ whole
all_pairs f xs ys text whole ends is =
    sym (append-nil text) ∙ ap (λ rest. text ++ rest) (sym (no_pair f xs ys ends)) ∙ is
