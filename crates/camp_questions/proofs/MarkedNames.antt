-- Names that are marked by their index.
use Rattle.camp_questions.proofs.Words.{◌≡◌, ◌<◌, ◌≤◌, ℕ, zero, suc, ◌+◌, Bool, true, false, true≢false, ◌||◌, List, [], ◌∷◌, length, get_or, take, replicate, bytes_eq, refl, sym, ap, ◌∙◌, arith, is_among, is_among_is, name_itself, or_none, or_parts, or_true, same_name, AreDistinct, set, false_from_ne_true, or_from, Contains-get_or, AreMarkedBelow, marked, is_marked, marked_in_both, other_way}

-- a marked name is among the names
pub marked_within : (names : List (List ℕ)) (marks : List Bool) (n : List ℕ) → is_among names n ≡ false → is_among (marked names marks) n ≡ false
marked_within [] marks n lacks = refl
marked_within (name ∷ names) [] n lacks = refl
marked_within (name ∷ names) (true ∷ marks) n lacks =
    let parts = or_parts (bytes_eq n name) (is_among names n) lacks in
    or_from (bytes_eq n name) (is_among (marked names marks) n) parts.0 (marked_within names marks n parts.1)
marked_within (name ∷ names) (false ∷ marks) n lacks =
    marked_within names marks n (or_parts (bytes_eq n name) (is_among names n) lacks).1

pub there : (names : List (List ℕ)) (k : ℕ) (n : List ℕ) → k < length names → is_among names (get_or names k n) ≡ true
there names k n within = (is_among_is names (get_or names k n)).0 (Contains-get_or names k n within)

-- no two indexes have the same name
pub apart_places : (names : List (List ℕ)) (j k : ℕ) (n : List ℕ) → AreDistinct names → j < k → k < length names → bytes_eq (get_or names j n) (get_or names k n) ≡ false
apart_places [] j k n distinct less within = absurd (omega (arith, within))
apart_places (name ∷ names) j zero n distinct less within = absurd (omega (arith, less))
apart_places (name ∷ names) zero (suc k) n distinct less within =
    false_from_ne_true (bytes_eq name (get_or names k n)) (λ e. true≢false (sym (ap (is_among names) (same_name name (get_or names k n) e) ∙ there names k n (omega (arith, within))) ∙ distinct.0))
apart_places (name ∷ names) (suc j) (suc k) n distinct less within =
    apart_places names j k n distinct.1 (omega (arith, less)) (omega (arith, within))

-- the name at an index is marked exactly if the index is
pub among_marked : (names : List (List ℕ)) (marks : List Bool) (k : ℕ) (n : List ℕ) → AreDistinct names → k < length names → is_among (marked names marks) (get_or names k n) ≡ is_marked marks k
among_marked [] marks k n distinct within = absurd (omega (arith, within))
among_marked (name ∷ names) [] k n distinct within = refl
among_marked (name ∷ names) (true ∷ marks) zero n distinct within =
    ap (λ b. b || is_among (marked names marks) name) (name_itself name)
among_marked (name ∷ names) (false ∷ marks) zero n distinct within = marked_within names marks name distinct.0
among_marked (name ∷ names) (true ∷ marks) (suc k) n distinct within =
    let other : bytes_eq (get_or names k n) name ≡ false = other_way name (get_or names k n) (apart_places (name ∷ names) zero (suc k) n distinct (omega arith) within) in
    ap (λ b. b || is_among (marked names marks) (get_or names k n)) other ∙ among_marked names marks k n distinct.1 (omega (arith, within))
among_marked (name ∷ names) (false ∷ marks) (suc k) n distinct within =
    among_marked names marks k n distinct.1 (omega (arith, within))

-- the marks of both lists
pub mark_in_both : (marks more : List Bool) (k : ℕ) → length more ≤ length marks → is_marked (marked_in_both marks more) k ≡ (is_marked marks k || is_marked more k)
mark_in_both [] [] k within = refl
mark_in_both [] (other ∷ more) k within = absurd (omega (arith, within))
mark_in_both (mark ∷ marks) [] k within = sym (or_none (is_marked (mark ∷ marks) k))
mark_in_both (mark ∷ marks) (other ∷ more) zero within = refl
mark_in_both (mark ∷ marks) (other ∷ more) (suc k) within = mark_in_both marks more k (omega (arith, within))

pub both_long : (marks more : List Bool) → length (marked_in_both marks more) ≡ length marks
both_long [] more = refl
both_long (mark ∷ marks) [] = refl
both_long (mark ∷ marks) (other ∷ more) = ap suc (both_long marks more)

-- the names that are marked in one list or in the other
pub among_both_marked : (names : List (List ℕ)) (marks more : List Bool) (n : List ℕ) → length more ≤ length marks → is_among (marked names (marked_in_both marks more)) n ≡ (is_among (marked names marks) n || is_among (marked names more) n)
among_both_marked [] marks more n within = refl
among_both_marked (name ∷ names) [] [] n within = refl
among_both_marked (name ∷ names) [] (other ∷ more) n within = absurd (omega (arith, within))
among_both_marked (name ∷ names) (mark ∷ marks) [] n within = sym (or_none (is_among (marked (name ∷ names) (mark ∷ marks)) n))
among_both_marked (name ∷ names) (mark ∷ marks) (other ∷ more) n within =
    of_marks mark other (among_both_marked names marks more n (omega (arith, within)))
  where
    of_marks : (a b : Bool) → is_among (marked names (marked_in_both marks more)) n ≡ (is_among (marked names marks) n || is_among (marked names more) n) → is_among (marked (name ∷ names) ((a || b) ∷ marked_in_both marks more)) n ≡ (is_among (marked (name ∷ names) (a ∷ marks)) n || is_among (marked (name ∷ names) (b ∷ more)) n)
    of_marks false false rest = rest
    of_marks false true rest = ap (λ b. bytes_eq n name || b) rest ∙ elim (bytes_eq n name) as (λ s. (s || (is_among (marked names marks) n || is_among (marked names more) n)) ≡ (is_among (marked names marks) n || (s || is_among (marked names more) n))) [
      | true ↦ sym (or_true (is_among (marked names marks) n) true refl)
      | false ↦ refl
    ]
    of_marks true false rest = ap (λ b. bytes_eq n name || b) rest ∙ elim (bytes_eq n name) as (λ s. (s || (is_among (marked names marks) n || is_among (marked names more) n)) ≡ ((s || is_among (marked names marks) n) || is_among (marked names more) n)) [ true ↦ refl | false ↦ refl ]
    of_marks true true rest = ap (λ b. bytes_eq n name || b) rest ∙ elim (bytes_eq n name) as (λ s. (s || (is_among (marked names marks) n || is_among (marked names more) n)) ≡ ((s || is_among (marked names marks) n) || (s || is_among (marked names more) n))) [ true ↦ refl | false ↦ refl ]

none_marked : (names : List (List ℕ)) → marked names [] ≡ []
none_marked [] = refl
none_marked (name ∷ names) = refl

-- a single index is marked
pub one_marked : (names : List (List ℕ)) (k : ℕ) (n : List ℕ) → k < length names → marked names (set (replicate (k + 1) false) k true) ≡ get_or names k n ∷ []
one_marked [] k n within = absurd (omega (arith, within))
one_marked (name ∷ names) zero n within = ap (λ l. name ∷ l) (none_marked names)
one_marked (name ∷ names) (suc k) n within =
    let e : suc k + 1 ≡ suc (k + 1) = omega arith in
    ap (λ m. marked (name ∷ names) (set (replicate m false) (suc k) true)) e ∙ one_marked names k n (omega (arith, within))

pub none_yet : (marks more : List Bool) → marks ≡ marked_in_both marks (take 0 more)
none_yet [] more = refl
none_yet (mark ∷ marks) [] = refl
none_yet (mark ∷ marks) (other ∷ more) = refl

-- one more mark of the other list is added
pub one_joins : (marks more : List Bool) (i : ℕ) → length more ≤ length marks → i < length more → get_or more i false ≡ true → set (marked_in_both marks (take i more)) i true ≡ marked_in_both marks (take (i + 1) more)
one_joins marks [] i within inside e = absurd (omega (arith, inside))
one_joins [] (other ∷ more) i within inside e = absurd (omega (arith, within))
one_joins (mark ∷ marks) (other ∷ more) zero within inside e = λ k. sym (or_true mark other e) k ∷ none_yet marks more k
one_joins (mark ∷ marks) (other ∷ more) (suc i) within inside e =
    let next : suc (i + 1) ≡ suc i + 1 = omega arith in
    (λ k. (mark || other) ∷ one_joins marks more i (omega (arith, within)) (omega (arith, inside)) e k) ∙ ap (λ m. marked_in_both (mark ∷ marks) (take m (other ∷ more))) next

-- an index that is not marked in the other list stays as it is
pub none_joins : (marks more : List Bool) (i : ℕ) → length more ≤ length marks → i < length more → get_or more i false ≡ false → marked_in_both marks (take i more) ≡ marked_in_both marks (take (i + 1) more)
none_joins marks [] i within inside e = absurd (omega (arith, inside))
none_joins [] (other ∷ more) i within inside e = absurd (omega (arith, within))
none_joins (mark ∷ marks) (other ∷ more) zero within inside e = λ k. sym (ap (λ b. mark || b) e ∙ or_none mark) k ∷ none_yet marks more k
none_joins (mark ∷ marks) (other ∷ more) (suc i) within inside e =
    let next : suc (i + 1) ≡ suc i + 1 = omega arith in
    (λ k. (mark || other) ∷ none_joins marks more i (omega (arith, within)) (omega (arith, inside)) e k) ∙ ap (λ m. marked_in_both (mark ∷ marks) (take m (other ∷ more))) next

-- a marked index stays marked
pub marked_still : (marks more : List Bool) (place : ℕ) → length more ≤ length marks → AreMarkedBelow marks place → AreMarkedBelow (marked_in_both marks more) place
marked_still marks more place within below r less = mark_in_both marks more r within ∙ ap (λ b. b || is_marked more r) (below r less)
