-- Lists of names, and of what has names.
use Rattle.camp_branch.proofs.Words.{◌≡◌, ℕ, Bool, true, false, true≢false, not, ◌||◌, ◌&&◌, cond, List, [], ◌∷◌, ◌++◌, map, filter, bytes_eq, refl, sym, ap, ◌∙◌, Contains, AllByRecursion, AreDistinct, is_among, each_once, arith, get_or-map, length-map, and-true, and_comm, and_right, cond-false, cond-true, cond_both, false_from_ne_true, or_from, All-append, All-contains_itself, All-filter, All-from_recursion, All-weaker, Decides-contains, recursion_from_All, list_any-append, Catch, has_patch, name_of, map-append}
use Rattle.std.proofs.lemmas.Bool.Decides.{Decides-by_or, Decides-like}
use Rattle.std.proofs.lemmas.Map.Views.{any-filter_same}
use Rattle.std.proofs.lemmas.Slice.Eq.{bytes_eq-Decides}
pub use Rattle.std.proofs.lemmas.Bool.{or_parts, or_right as or_true}

pub same_name : (a b : List ℕ) → bytes_eq a b ≡ true → a ≡ b
same_name a b e = (bytes_eq-Decides a b).0 e

pub name_itself : (a : List ℕ) → bytes_eq a a ≡ true
name_itself a = (bytes_eq-Decides a a).1 refl

-- two names differ, either way
pub other_way : (a b : List ℕ) → bytes_eq a b ≡ false → bytes_eq b a ≡ false
other_way a b e =
    false_from_ne_true (bytes_eq b a) (λ f. true≢false (sym ((bytes_eq-Decides a b).1 (sym (same_name b a f))) ∙ e))

-- the test and the fact
pub is_among_is : (names : List (List ℕ)) (name : List ℕ) → (Contains names name → is_among names name ≡ true) × (is_among names name ≡ true → Contains names name)
is_among_is names name =
    let each = λ (n : List ℕ). Decides-like (bytes_eq name n) sym sym (bytes_eq-Decides name n) in
    let decides = Decides-contains names name _ (Decides-by_or (bytes_eq name) (λ n. n ≡ name) (λ ns. is_among ns name) each refl (λ _ _. refl) names) in
    (decides.1, decides.0)

pub not_among : (names : List (List ℕ)) (name : List ℕ) → ¬ (Contains names name) → is_among names name ≡ false
not_among names name never = false_from_ne_true _ (λ e. never ((is_among_is names name).1 e))

-- a fact about each name among some holds of each of them
pub each_among : (Q : List ℕ → Type 0) (names : List (List ℕ)) → ((name : List ℕ) → is_among names name ≡ true → Q name) → AllByRecursion Q names
each_among Q names holds =
    recursion_from_All Q names (All-weaker (Contains names) Q (λ n c. holds n ((is_among_is names n).0 c)) names (All-contains_itself names))

pub has_image : {X Y : Type 0} (f : X → Y) (xs : List X) (x : X) → Contains xs x → Contains (map f xs) (f x)
has_image f xs x (k, within, is) = (k, (omega (arith, length-map xs f)), get_or-map f xs k x (f x) within ∙ ap f is)

-- a fact about each element with a name holds of each of some, if it depends on their names only
pub each_named : {X : Type 0} (name_in : X → List ℕ) (Q : X → Type 0) (xs : List X) → ((x : X) → Contains (map name_in xs) (name_in x) → Q x) → AllByRecursion Q xs
each_named name_in Q xs holds =
    recursion_from_All Q xs (All-weaker (Contains xs) Q (λ x c. holds x (has_image name_in xs x c)) xs (All-contains_itself xs))

-- a name that passes a test is among those that pass a weaker one
pub filter_within : {X : Type 0} (p q : X → Bool) → ((x : X) → p x ≡ true → q x ≡ true) → (xs : List X) → filter p (filter q xs) ≡ filter p xs
filter_within p q within [] = refl
filter_within p q within (x ∷ xs) =
    let rest = filter_within p q within xs in
    cond_both (q x) (x ∷ filter q xs) (filter q xs) (λ l. filter p l ≡ filter p (x ∷ xs)) (λ e. ap (λ t. cond (p x) (x ∷ t) t) rest) (λ e. rest ∙ sym (cond-false (p x) _ _ (false_from_ne_true (p x) (λ f. true≢false (sym (within x f) ∙ e)))))

-- a filter of images is the images of a filter
pub filter_image : {X Y : Type 0} (f : X → Y) (p : Y → Bool) (xs : List X) → filter p (map f xs) ≡ map f (filter (λ x. p (f x)) xs)
filter_image f p [] = refl
filter_image f p (x ∷ xs) =
    let kept = filter (λ y. p (f y)) xs in
    ap (λ t. cond (p (f x)) (f x ∷ t) t) (filter_image f p xs) ∙ cond_both (p (f x)) (x ∷ kept) kept (λ l. cond (p (f x)) (f x ∷ map f kept) (map f kept) ≡ map f l) (λ e. cond-true (p (f x)) _ _ e) (λ e. cond-false (p (f x)) _ _ e)

-- a list without a name is that without it
pub without_other : (name : List ℕ) (names : List (List ℕ)) → is_among names name ≡ false → filter (λ other. not (bytes_eq name other)) names ≡ names
without_other name [] e = refl
without_other name (n ∷ names) e =
    let parts = or_parts (bytes_eq name n) (is_among names name) e in
    cond-true (not (bytes_eq name n)) _ _ (ap not parts.0) ∙ ap (λ t. n ∷ t) (without_other name names parts.1)

module _ {X : Type 0} (name_in : X → List ℕ) (p : X → Bool) where
  among_filter : (name : List ℕ) (xs : List X) → is_among (map name_in xs) name ≡ false → is_among (map name_in (filter p xs)) name ≡ false
  among_filter name [] e = refl
  among_filter name (x ∷ xs) e =
      let parts = or_parts (bytes_eq name (name_in x)) (is_among (map name_in xs) name) e in
      let rest = among_filter name xs parts.1 in
      cond_both (p x) (x ∷ filter p xs) (filter p xs) (λ l. is_among (map name_in l) name ≡ false) (λ f. or_from _ _ parts.0 rest) (λ f. rest)

  pub distinct_filter : (xs : List X) → AreDistinct (map name_in xs) → AreDistinct (map name_in (filter p xs))
  distinct_filter [] w = tt
  distinct_filter (x ∷ xs) w =
      let rest = distinct_filter xs w.1 in
      cond_both (p x) (x ∷ filter p xs) (filter p xs) (λ l. AreDistinct (map name_in l)) (λ e. (among_filter (name_in x) xs w.0, rest)) (λ e. rest)

  pub all_filter : (P : X → Type 0) (xs : List X) → AllByRecursion P xs → AllByRecursion P (filter p xs)
  all_filter P xs w = recursion_from_All P (filter p xs) (All-filter p P xs (All-from_recursion P xs w))

pub all_append : {X : Type 0} (P : X → Type 0) (xs ys : List X) → AllByRecursion P xs → AllByRecursion P ys → AllByRecursion P (xs ++ ys)
all_append P xs ys v w =
    recursion_from_All P (xs ++ ys) (All-append P xs ys (All-from_recursion P xs v) (All-from_recursion P ys w))

-- two lists of names that share none
pub distinct_append : (xs ys : List (List ℕ)) → AreDistinct xs → AreDistinct ys → AllByRecursion (λ name. is_among ys name ≡ false) xs → AreDistinct (xs ++ ys)
distinct_append [] ys v w apart = w
distinct_append (x ∷ xs) ys v w apart =
    (list_any-append (bytes_eq x) xs ys ∙ or_from _ _ v.0 apart.0, distinct_append xs ys v.1 w apart.1)

-- a name is among those that pass a test if it is there and passes it
pub among_kept : (p : List ℕ → Bool) (names : List (List ℕ)) (n : List ℕ) → is_among (filter p names) n ≡ (is_among names n && p n)
among_kept p names n =
    any-filter_same (bytes_eq n) p (p n) (λ k e. ap p (sym (same_name n k e))) names ∙ and_comm (p n) (is_among names n)

-- a name that fails a test is not among those that pass it
pub not_kept : (p : List ℕ → Bool) (names : List (List ℕ)) (name : List ℕ) → p name ≡ false → is_among (filter p names) name ≡ false
not_kept p names name e = among_kept p names name ∙ and_right (is_among names name) (p name) e

-- whether a name is among those that pass a test is the test itself
pub passes_is_kept : (p : List ℕ → Bool) (names : List (List ℕ)) (name : List ℕ) → is_among names name ≡ true → is_among (filter p names) name ≡ p name
passes_is_kept p names name there = among_kept p names name ∙ ap (λ b. b && p name) there

or_else : (b x y : Bool) → (b ≡ false → x ≡ y) → (b || x) ≡ (b || y)
or_else true x y same = refl
or_else false x y same = same refl

-- each name once, they are the same names
pub among_once : (names : List (List ℕ)) (n : List ℕ) → is_among (each_once names) n ≡ is_among names n
among_once [] n = refl
among_once (x ∷ names) n =
    or_else (bytes_eq n x) _ _ (λ e. among_kept (λ other. not (bytes_eq x other)) (each_once names) n ∙ ap (λ t. is_among (each_once names) n && not t) (other_way n x e) ∙ and-true (is_among (each_once names) n) ∙ among_once names n)

-- two lists of catches joined have the patches of both
pub has_split : (front rest : List Catch) (n : List ℕ) → has_patch (front ++ rest) n ≡ (has_patch front n || has_patch rest n)
has_split front rest n =
    ap (λ l. is_among l n) (map-append name_of front rest) ∙ list_any-append (bytes_eq n) (map name_of front) (map name_of rest)
