-- Rows that grow item by item.
use Rattle.camp_notation.proofs.Common.{◌≡◌, ℕ, ◌+◌, ◌<◌, ◌≤◌, List, [], ◌∷◌, ◌++◌, length, take, None, Some, sym, ap, ◌∙◌, append_assoc, append-nil, arith, take_all, length-take-le, slice_get-get_or, slice_get_within, get_or_from_slice_get, none-some}
use Rattle.camp_notation.proofs.Common.{flat_map, slice_get, row, separator}
use Rattle.std.proofs.lemmas.List.{take_more}
use Rattle.std.proofs.lemmas.Grind.{flat_map-append}

-- one more item, after those that are there
behind : {X : Type 0} (text : X → List ℕ) (xs : List X) (x : X) → row text (xs ++ x ∷ []) ≡ row text xs ++ (separator (length xs) ++ text x)
behind text [] x = append-nil (text x)
behind text (y ∷ ys) x =
    ap (λ t. text y ++ t) (flat_map-append (λ z. 44 ∷ 32 ∷ text z) ys (x ∷ []) ∙ ap (λ t. flat_map (λ z. 44 ∷ 32 ∷ text z) ys ++ t) (append-nil (44 ∷ 32 ∷ text x)))
    ∙ sym (append_assoc (text y) (flat_map (λ z. 44 ∷ 32 ∷ text z) ys) (44 ∷ 32 ∷ text x))

-- one more item of a list
pub one_more : {X : Type 0} (text : X → List ℕ) (xs : List X) (i : ℕ) (x : X) (old now apart new : List ℕ) → now ≡ old ++ row text (take i xs) → slice_get xs i ≡ Some x → apart ≡ now ++ separator i → new ≡ apart ++ text x → new ≡ old ++ row text (take (i + 1) xs)
one_more text xs i x old now apart new so read separated is =
    let inside : i < length xs = slice_get_within xs i x read in
    let last = ap (λ y. take i xs ++ y ∷ []) (sym (get_or_from_slice_get xs i x x read)) ∙ sym (take_more xs i x inside) in
    let size : length (take i xs) ≡ i = length-take-le i xs (omega arith) in
    let grown = behind text (take i xs) x ∙ ap (λ n. row text (take i xs) ++ (separator n ++ text x)) size in
    is ∙ ap (λ t. t ++ text x) (separated ∙ ap (λ t. t ++ separator i) so) ∙ append_assoc (old ++ row text (take i xs)) (separator i) (text x)
    ∙ append_assoc old (row text (take i xs)) (separator i ++ text x) ∙ ap (λ t. old ++ t) (sym grown ∙ ap (row text) last)

-- a list has an item at each place below its length
pub no_item : {X : Type 0} (xs : List X) (i : ℕ) → i < length xs → slice_get xs i ≡ None → ⊥
no_item [] i inside none = omega arith
no_item (x ∷ xs) i inside none = none-some _ (sym none ∙ slice_get-get_or (x ∷ xs) i x inside)

-- all items of a list
pub all_items : {X : Type 0} (text : X → List ℕ) (xs : List X) (i : ℕ) (old now : List ℕ) → length xs ≤ i → now ≡ old ++ row text (take i xs) → now ≡ old ++ row text xs
all_items text xs i old now over so = so ∙ ap (λ s. old ++ row text s) (take_all i xs over)
