-- The elements of a list that a test keeps.
use Rattle.camp_questions.proofs.Words.{All-from_recursion, All-weaker, AllByRecursion, recursion_from_All, ◌≡◌, Bool, true, cond, List, [], ◌∷◌, filter, sym, ap, ◌∙◌, subst, inl, inr, Contains, cond_both, All-contains, All-filter, All-contains_itself, filter_passes, first_or_later, has_first, has_later, no_member}

-- an element that passes a test is kept
pub kept_has : {X : Type 0} (p : X → Bool) (list : List X) (x : X) → Contains list x → p x ≡ true → Contains (filter p list) x
kept_has p [] x c is = no_member x c
kept_has p (y ∷ list) x c is = elim (first_or_later y x list c) [
  | inl same ↦ subst (λ b. Contains (cond b (y ∷ filter p list) (filter p list)) x) (sym (ap p same ∙ is)) (subst (Contains (y ∷ filter p list)) same (has_first y (filter p list)))
  | inr later ↦
      let rest = kept_has p list x later is in
      cond_both (p y) (y ∷ filter p list) (filter p list) (λ l. Contains l x) (λ e. has_later y x (filter p list) rest) (λ e. rest)
]

-- an element that a test keeps is in the list and passes the test
pub is_kept : {X : Type 0} (p : X → Bool) (list : List X) (x : X) → Contains (filter p list) x → Contains list x × (p x ≡ true)
is_kept p list x c =
    (All-contains (Contains list) (filter p list) x (All-filter p (Contains list) list (All-contains_itself list)) c, All-contains (λ y. p y ≡ true) (filter p list) x (filter_passes p list) c)

-- a fact about each element holds of all
pub of_each : {X : Type 0} (P : X → Type 0) (xs : List X) → ((x : X) → Contains xs x → P x) → AllByRecursion P xs
of_each P xs each = recursion_from_All P xs (All-weaker (Contains xs) P each xs (All-contains_itself xs))

-- and a fact about all holds of each
pub fact_of : {X : Type 0} (P : X → Type 0) (xs : List X) (x : X) → AllByRecursion P xs → Contains xs x → P x
fact_of P xs x all there = All-contains P xs x (All-from_recursion P xs all) there
