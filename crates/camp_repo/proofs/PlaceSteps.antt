-- Names and branches side by side.
use Rattle.camp_repo.proofs.Words.{◌≡◌, ◌<◌, ◌+◌, ℕ, zero, suc, pred, true, false, cond, List, [], ◌∷◌, ◌++◌, length, zip, position, slice_get, slice_set, None, Some, bytes_eq, arith, refl, sym, ap, ◌∙◌, ◌||◌, subst, none-some, same_Some, Catch, has_patch, placed, catches_of, stands, with_catches, cond_both, length-map, seconds-zip, list_any, position_from}
use Rattle.std.proofs.lemmas.Iterator.Adapters.{position_from-zero}

pub as_long : (names : List (List ℕ)) (branches : List (List Catch)) → length names ≡ length branches → length (zip names branches) ≡ length branches
as_long names branches e = sym (length-map (zip names branches) (λ (b : List ℕ × List Catch). b.1)) ∙ ap length (seconds-zip names branches (sym e))

-- the branches with one more
pub zip_grown : (names : List (List ℕ)) (branches : List (List Catch)) (n : List ℕ) (b : List Catch) → length names ≡ length branches → zip (names ++ n ∷ []) (branches ++ b ∷ []) ≡ zip names branches ++ (n, b) ∷ []
zip_grown [] [] n b e = refl
zip_grown [] (c ∷ bs) n b e = cc
zip_grown (m ∷ ns) [] n b e = cc
zip_grown (m ∷ ns) (c ∷ bs) n b e = ap (λ t. (m, c) ∷ t) (zip_grown ns bs n b (ap pred e))

-- one of the branches becomes another
pub zip_placed : (names : List (List ℕ)) (branches : List (List Catch)) (i : ℕ) (b : List Catch) → length names ≡ length branches → zip names (slice_set branches i b) ≡ placed (zip names branches) i b
zip_placed [] [] i b e = refl
zip_placed [] (c ∷ bs) i b e = cc
zip_placed (n ∷ ns) [] i b e = refl
zip_placed (n ∷ ns) (c ∷ bs) zero b e = refl
zip_placed (n ∷ ns) (c ∷ bs) (suc i) b e = ap (λ t. (n, c) ∷ t) (zip_placed ns bs i b (ap pred e))

pub zip_stands : (names : List (List ℕ)) (branches : List (List Catch)) (name : List ℕ) → length names ≡ length branches → stands (zip names branches) name ≡ list_any (λ b. has_patch b name) branches
zip_stands [] [] name e = refl
zip_stands [] (b ∷ bs) name e = cc
zip_stands (n ∷ ns) [] name e = cc
zip_stands (n ∷ ns) (b ∷ bs) name e =
    ap (λ t. has_patch b name || t) (zip_stands ns bs name (ap pred e))

-- the first branch of a name is at an index
pub record StandsAt (names : List (List ℕ)) (branches : List (List Catch)) (name : List ℕ) (place : ℕ) : Type 0 where
  pub within : place < length branches
  pub has : slice_get branches place ≡ catches_of (zip names branches) name
  pub becomes : (catches : List Catch) → placed (zip names branches) place catches ≡ with_catches (zip names branches) name catches

stands_first : (n : List ℕ) (names : List (List ℕ)) (b : List Catch) (branches : List (List Catch)) (name : List ℕ) → bytes_eq name n ≡ true → StandsAt (n ∷ names) (b ∷ branches) name 0
stands_first n names b branches name here = record {
  within = omega arith;
  has = sym (ap (λ t. cond t (Some b) (catches_of (zip names branches) name)) here);
  becomes = λ catches. sym (ap (λ t. cond t ((n, catches) ∷ zip names branches) ((n, b) ∷ with_catches (zip names branches) name catches)) here);
}

stands_later : (n : List ℕ) (names : List (List ℕ)) (b : List Catch) (branches : List (List Catch)) (name : List ℕ) (place : ℕ) → bytes_eq name n ≡ false → StandsAt names branches name place → StandsAt (n ∷ names) (b ∷ branches) name (suc place)
stands_later n names b branches name place there later =
    let within = later.within in
    record {
      within = omega arith;
      has = later.has ∙ sym (ap (λ t. cond t (Some b) (catches_of (zip names branches) name)) there);
      becomes = λ catches. ap (λ t. (n, b) ∷ t) (later.becomes catches) ∙ sym (ap (λ t. cond t ((n, catches) ∷ zip names branches) ((n, b) ∷ with_catches (zip names branches) name catches)) there);
    }

found_from : (names : List (List ℕ)) (branches : List (List Catch)) (name : List ℕ) (i j : ℕ) → length names ≡ length branches → position_from (bytes_eq name) i names ≡ Some j → (place : ℕ) × (j ≡ i + place) × StandsAt names branches name place
found_from [] branches name i j long e = absurd (none-some j e)
found_from (n ∷ names) [] name i j long e = cc
found_from (n ∷ names) (b ∷ branches) name i j long e =
    cond_both (bytes_eq name n) (Some i) (position_from (bytes_eq name) (i + 1) names) (λ o. o ≡ Some j → (place : ℕ) × (j ≡ i + place) × StandsAt (n ∷ names) (b ∷ branches) name place)
    (λ here at. let same = same_Some _ _ at in (0, (omega arith), stands_first n names b branches name here))
    (λ there at. let w = found_from names branches name (i + 1) j (ap pred long) at in let sum = w.1 in (suc w.0, (omega arith), stands_later n names b branches name w.0 there w.2)) e

missing_from : (names : List (List ℕ)) (branches : List (List Catch)) (name : List ℕ) (i : ℕ) → position_from (bytes_eq name) i names ≡ None → catches_of (zip names branches) name ≡ None
missing_from [] branches name i e = none_zipped branches
  where
    none_zipped : (bs : List (List Catch)) → catches_of (zip [] bs) name ≡ None
    none_zipped [] = refl
    none_zipped (c ∷ bs) = refl
missing_from (n ∷ names) [] name i e = refl
missing_from (n ∷ names) (b ∷ branches) name i e =
    cond_both (bytes_eq name n) (Some i) (position_from (bytes_eq name) (i + 1) names) (λ o. o ≡ None → cond (bytes_eq name n) (Some b) (catches_of (zip names branches) name) ≡ None)
    (λ here at. absurd (none-some i (sym at)))
    (λ there at. ap (λ t. cond t (Some b) (catches_of (zip names branches) name)) there ∙ missing_from names branches name (i + 1) at) e

-- the index that a search finds
pub found : (names : List (List ℕ)) (branches : List (List Catch)) (name : List ℕ) (place : ℕ) → length names ≡ length branches → position (bytes_eq name) names ≡ Some place → StandsAt names branches name place
found names branches name place long e =
    let w = found_from names branches name 0 place long (sym (position_from-zero (bytes_eq name) names) ∙ e) in
    let sum = w.1 in
    let same : w.0 ≡ place = omega arith in
    subst (StandsAt names branches name) same w.2

-- if a search finds none, there is no branch of the name
pub missing : (names : List (List ℕ)) (branches : List (List Catch)) (name : List ℕ) → position (bytes_eq name) names ≡ None → catches_of (zip names branches) name ≡ None
missing names branches name e =
    missing_from names branches name 0 (sym (position_from-zero (bytes_eq name) names) ∙ e)
