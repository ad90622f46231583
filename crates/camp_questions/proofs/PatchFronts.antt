-- The patches of a lawful branch up to an index can be moved to its front.
use Rattle.camp_questions.proofs.Words.{false_from_ne_true, ◌≡◌, ◌≢◌, ◌<◌, ℕ, zero, suc, ◌+◌, Bool, true, false, true≢false, ◌||◌, cond, List, [], ◌∷◌, ◌++◌, bytes_eq, append-nil, refl, sym, ap, ◌∙◌, subst, inl, inr, arith, AllByRecursion, append_assoc, Key, Catch, all_append, is_among_is, name_itself, or_true, same_name, ArrangesAfter, AreDistinct, Patch, is_among, labels_from, labels_of, name_of, patch_names, keys_of, list_any, or_cases, map}

-- names up to an index
abbrev pub up_to : List (List ℕ) → List ℕ → List (List ℕ)
up_to [] name = []
up_to (n ∷ names) name = cond (bytes_eq name n) (n ∷ []) (n ∷ up_to names name)

-- the index of a name
abbrev pub place_of : List (List ℕ) → List ℕ → ℕ
place_of [] name = zero
place_of (n ∷ names) name = cond (bytes_eq name n) zero (suc (place_of names name))

earlier_at : (n : List ℕ) (names : List (List ℕ)) (name other : List ℕ) (b c : Bool) → bytes_eq name n ≡ b → bytes_eq other n ≡ c → is_among (cond b (n ∷ []) (n ∷ up_to names name)) other ≡ true → other ≢ name → (is_among (up_to names name) other ≡ true → place_of names other < place_of names name) → cond c zero (suc (place_of names other)) < cond b zero (suc (place_of names name))
earlier_at n names name other true true e f there different rest =
    absurd (different (same_name other n f ∙ sym (same_name name n e)))
earlier_at n names name other true false e f there different rest =
    absurd (true≢false (sym there ∙ ap (λ b. b || false) f))
earlier_at n names name other false true e f there different rest = omega arith
earlier_at n names name other false false e f there different rest =
    let less = rest (sym (ap (λ b. b || is_among (up_to names name) other) f) ∙ there) in omega (less, arith)

-- names up to an index, except the one there, come before it
pub earlier : (names : List (List ℕ)) (name other : List ℕ) → is_among (up_to names name) other ≡ true → other ≢ name → place_of names other < place_of names name
earlier [] name other there different = absurd (true≢false (sym there))
earlier (n ∷ names) name other there different =
    earlier_at n names name other (bytes_eq name n) (bytes_eq other n) refl refl there different (λ more. earlier names name other more different)

ends_at : (n : List ℕ) (names : List (List ℕ)) (name : List ℕ) (b : Bool) → bytes_eq name n ≡ b → (b || is_among names name) ≡ true → (is_among names name ≡ true → is_among (up_to names name) name ≡ true) → is_among (cond b (n ∷ []) (n ∷ up_to names name)) name ≡ true
ends_at n names name true e there rest = ap (λ b. b || false) e
ends_at n names name false e there rest = or_true (bytes_eq name n) (is_among (up_to names name) name) (rest there)

-- and it is the last of them
pub ends : (names : List (List ℕ)) (name : List ℕ) → is_among names name ≡ true → is_among (up_to names name) name ≡ true
ends [] name there = there
ends (n ∷ names) name there = ends_at n names name (bytes_eq name n) refl there (ends names name)

-- catches are of these names, or of none of them
abbrev pub AreOf : List (List ℕ) → List Catch → Type 0
AreOf names list = AllByRecursion (λ k. is_among names (name_of k) ≡ true) list

abbrev pub AreNotOf : List (List ℕ) → List Catch → Type 0
AreNotOf names list = AllByRecursion (λ k. is_among names (name_of k) ≡ false) list

module _ (names : List (List ℕ)) where
  pub others_stay : (rest list : List Catch) → AreNotOf names list → ArrangesAfter names rest list [] (rest ++ list)
  others_stay rest [] are = (refl, append-nil rest)
  others_stay rest (k ∷ list) are =
      inr (λ c. true≢false (sym ((is_among_is names (name_of k)).0 c) ∙ are.0), subst (ArrangesAfter names (rest ++ k ∷ []) list []) (append_assoc rest (k ∷ []) list) (others_stay (rest ++ k ∷ []) list are.1))

  pub those_come : (front behind : List Catch) → AreOf names front → AreNotOf names behind → ArrangesAfter names [] (front ++ behind) front behind
  those_come [] behind are others = others_stay [] behind others
  those_come (k ∷ front) behind are others =
      inl ((is_among_is names (name_of k)).1 are.0, (k, [], front, (refl, refl), those_come front behind are.1 others, refl))

-- a list in two parts, by its labels
pub record PartsByLabels (list : List Catch) (xs ys : List Key) : Type 0 where
  pub first : List Catch
  pub rest : List Catch
  pub is : list ≡ first ++ rest
  pub first_keys : keys_of first ≡ xs
  pub rest_keys : keys_of rest ≡ ys

pub same_head : {X : Type 0} {x y : X} {xs ys : List X} → x ∷ xs ≡ y ∷ ys → (x ≡ y) × (xs ≡ ys)
same_head e = (cc, cc)

pub parts_by_labels : (list : List Catch) (xs ys : List Key) → keys_of list ≡ xs ++ ys → PartsByLabels list xs ys
parts_by_labels list [] ys e = record { first = []; rest = list; is = refl; first_keys = refl; rest_keys = e }
parts_by_labels [] (x ∷ xs) ys e = cc
parts_by_labels (k ∷ list) (x ∷ xs) ys e =
    let same = same_head e in
    let parts = parts_by_labels list xs ys same.1 in
    record {
      first = k ∷ parts.first;
      rest = parts.rest;
      is = ap (λ l. k ∷ l) parts.is;
      first_keys = λ i. same.0 i ∷ parts.first_keys i;
      rest_keys = parts.rest_keys;
    }

pub of_one_patch : (list : List Catch) (name : List ℕ) (place changes : ℕ) → keys_of list ≡ labels_from name place changes → AllByRecursion (λ k. name_of k ≡ name) list
of_one_patch [] name place changes e = tt
of_one_patch (k ∷ list) name place zero e = cc
of_one_patch (k ∷ list) name place (suc changes) e =
    let same = same_head e in
    (ap (λ key. key.name) same.0, of_one_patch list name (place + 1) changes same.1)

pub all_are : {X : Type 0} {P Q : X → Type 0} → ((x : X) → P x → Q x) → (list : List X) → AllByRecursion P list → AllByRecursion Q list
all_are to [] w = tt
all_are to (k ∷ list) w = (to k w.0, all_are to list w.1)

pub all_images : {X Y : Type 0} (f : X → Y) (P : Y → Type 0) (list : List X) → AllByRecursion (λ x. P (f x)) list → AllByRecursion P (map f list)
all_images f P [] w = tt
all_images f P (x ∷ list) w = (w.0, all_images f P list w.1)

-- one element of a list passes a test, and a fact about all holds of it
pub one_passing : {X : Type 0} (P : X → Type 0) (test : X → Bool) (list : List X) → AllByRecursion P list → list_any test list ≡ true → (x : X) × P x × (test x ≡ true)
one_passing P test [] all any = absurd (true≢false (sym any))
one_passing P test (x ∷ list) all any = elim (or_cases (test x) (list_any test list) any) [
  | inl e ↦ (x, all.0, e)
  | inr e ↦ one_passing P test list all.1 e
]

pub both_are : {P Q R : Catch → Type 0} → ((k : Catch) → P k → Q k → R k) → (list : List Catch) → AllByRecursion P list → AllByRecursion Q list → AllByRecursion R list
both_are to [] v w = tt
both_are to (k ∷ list) v w = (to k v.0 w.0, both_are to list v.1 w.1)

pub all_before : (P : Catch → Type 0) (xs ys : List Catch) → AllByRecursion P (xs ++ ys) → AllByRecursion P xs
all_before P [] ys w = tt
all_before P (x ∷ xs) ys w = (w.0, all_before P xs ys w.1)

pub all_behind : (P : Catch → Type 0) (xs ys : List Catch) → AllByRecursion P (xs ++ ys) → AllByRecursion P ys
all_behind P [] ys w = w
all_behind P (x ∷ xs) ys w = all_behind P xs ys w.1

pub at_first : (n : List ℕ) (names : List (List ℕ)) (name : List ℕ) → name ≡ n → is_among (n ∷ names) name ≡ true
at_first n names name e = ap (λ b. b || is_among names name) (ap (λ l. bytes_eq l n) e ∙ name_itself n)

-- catches are of the patches whose labels they have
of_patches : (patches : List Patch) (list : List Catch) → keys_of list ≡ labels_of patches → AreOf (patch_names patches) list
of_patches [] [] e = tt
of_patches [] (k ∷ list) e = cc
of_patches (p ∷ patches) list e =
    let parts = parts_by_labels list (labels_from p.name 1 p.changes) (labels_of patches) e in
    let first = all_are (λ k is. at_first p.name (patch_names patches) (name_of k) is) parts.first (of_one_patch parts.first p.name 1 p.changes parts.first_keys) in
    let rest = all_are (λ k there. or_true (bytes_eq (name_of k) p.name) _ there) parts.rest (of_patches patches parts.rest parts.rest_keys) in
    subst (AreOf (patch_names (p ∷ patches))) (sym parts.is) (all_append (λ k. is_among (patch_names (p ∷ patches)) (name_of k) ≡ true) parts.first parts.rest first rest)

-- a name that is none of these
is_other : (name n : List ℕ) (names : List (List ℕ)) → is_among names n ≡ false → is_among names name ≡ true → bytes_eq name n ≡ false
is_other name n names lacks there =
    false_from_ne_true (bytes_eq name n) (λ e. true≢false (sym there ∙ ap (is_among names) (same_name name n e) ∙ lacks))

-- the catches of patches up to an index come before the others
pub record StandFirst (names : List (List ℕ)) (list : List Catch) : Type 0 where
  pub front : List Catch
  pub behind : List Catch
  pub is : list ≡ front ++ behind
  pub are : AreOf names front
  pub others : AreNotOf names behind

pub stand_first : (patches : List Patch) (list : List Catch) (name : List ℕ) → AreDistinct (patch_names patches) → keys_of list ≡ labels_of patches → StandFirst (up_to (patch_names patches) name) list
stand_first [] [] name distinct e = record { front = []; behind = []; is = refl; are = tt; others = tt }
stand_first [] (k ∷ list) name distinct e = cc
stand_first (p ∷ patches) list name distinct e =
    let parts = parts_by_labels list (labels_from p.name 1 p.changes) (labels_of patches) e in
    let own = of_one_patch parts.first p.name 1 p.changes parts.first_keys in
    let theirs = of_patches patches parts.rest parts.rest_keys in
    at parts own theirs (stand_first patches parts.rest name distinct.1 parts.rest_keys) (bytes_eq name p.name)
  where
    at : (parts : PartsByLabels list (labels_from p.name 1 p.changes) (labels_of patches)) → AllByRecursion (λ k. name_of k ≡ p.name) parts.first → AreOf (patch_names patches) parts.rest → StandFirst (up_to (patch_names patches) name) parts.rest → (b : Bool) → StandFirst (cond b (p.name ∷ []) (p.name ∷ up_to (patch_names patches) name)) list
    at parts own theirs next true = record {
      front = parts.first;
      behind = parts.rest;
      is = parts.is;
      are = all_are (λ k is. at_first p.name [] (name_of k) is) parts.first own;
      others = all_are (λ k there. ap (λ b. b || false) (is_other (name_of k) p.name (patch_names patches) distinct.0 there)) parts.rest theirs;
    }
    at parts own theirs next false = record {
      front = parts.first ++ next.front;
      behind = next.behind;
      is = parts.is ∙ ap (λ l. parts.first ++ l) next.is ∙ sym (append_assoc parts.first next.front next.behind);
      are = all_append (λ k. is_among (p.name ∷ up_to (patch_names patches) name) (name_of k) ≡ true) parts.first next.front (all_are (λ k is. at_first p.name (up_to (patch_names patches) name) (name_of k) is) parts.first own) (all_are (λ k there. or_true (bytes_eq (name_of k) p.name) _ there) next.front next.are);
      others = both_are (λ k there not. ap (λ b. b || is_among (up_to (patch_names patches) name) (name_of k)) (is_other (name_of k) p.name (patch_names patches) distinct.0 there) ∙ not) next.behind (all_behind (λ k. is_among (patch_names patches) (name_of k) ≡ true) next.front next.behind (subst (AreOf (patch_names patches)) next.is theirs)) next.others;
    }
