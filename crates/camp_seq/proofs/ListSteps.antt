-- Loops over a list in place, forwards or backwards.
use Rattle.camp_seq.proofs.Words.{◌≡◌, ℕ, ◌+◌, ◌-◌, ◌<◌, List, [], ◌∷◌, ◌++◌, length, take, drop, get_or, set, refl, sym, ap, subst, ◌∙◌, arith, append_assoc, length_push, take_at, drop_at, drop_all, drop_more, take-append-drop, drop-set, drop-set-lt, take-set, take-take, get_or-take, Named}
use Rattle.std.proofs.lemmas.Grind.{common_steps, drop_more_same}

-- the element at i and the elements after it, if the list is unchanged from i on
pub at_next : {X : Type 0} (s0 s : List X) (i : ℕ) (d : X) → i < length s → length s ≡ length s0 → drop i s ≡ drop i s0 → drop i s0 ≡ get_or s i d ∷ drop (i + 1) s0
at_next s0 s i d within same waiting =
    sym waiting ∙ drop_more s i d within ∙ ap (λ y. get_or s i d ∷ y) (drop_more_same s s0 i waiting)

-- the list is unchanged after i once the element at i is written
pub drop_next : {X : Type 0} (s0 s : List X) (i : ℕ) (d y : X) → i < length s → length s ≡ length s0 → drop i s ≡ drop i s0 → drop (i + 1) (set s i y) ≡ drop (i + 1) s0
drop_next s0 s i d y within same waiting =
    drop-set-lt (i + 1) s i y (omega arith) ∙ drop_more_same s s0 i waiting

-- the elements up to and including i
pub take_next : {X : Type 0} (s0 : List X) (i : ℕ) (x : X) → i < length s0 → drop i s0 ≡ x ∷ drop (i + 1) s0 → take (i + 1) s0 ≡ take i s0 ++ x ∷ []
take_next s0 i x within is = grind (arith, common_steps, drop_more s0 i x within)

-- the whole list is its elements before i followed by those from i on
pub whole : {X : Type 0} (s : List X) (i : ℕ) (t : List X) → drop i s ≡ t → s ≡ take i s ++ t
whole s i t is = sym (take-append-drop i s) ∙ ap (λ y. take i s ++ y) is

-- backwards: the element at i, if the list is unchanged before i + 1
pub at_last : {X : Type 0} (s0 s : List X) (i : ℕ) (d : X) → i < length s0 → take (i + 1) s ≡ take (i + 1) s0 → drop i s0 ≡ get_or s i d ∷ drop (i + 1) s0
at_last s0 s i d within waiting =
    grind (arith, common_steps, drop_more s0 i d within, get_or-take (i + 1) s i d, get_or-take (i + 1) s0 i d)

-- the list is unchanged before i
pub shorter : {X : Type 0} (s0 s : List X) (i : ℕ) → take (i + 1) s ≡ take (i + 1) s0 → take i s ≡ take i s0
shorter s0 s i waiting =
    sym (take-take i (i + 1) s (omega arith)) ∙ ap (take i) waiting ∙ take-take i (i + 1) s0 (omega arith)

pub take_last : {X : Type 0} (s0 s : List X) (i : ℕ) (y : X) → take (i + 1) s ≡ take (i + 1) s0 → take i (set s i y) ≡ take i s0
take_last s0 s i y waiting =
    take-set s i y ∙ shorter s0 s i waiting

-- backwards: the elements from an index on are replaced, and those before it unchanged
pub record DoneFrom (Done : List Named → List Named → Type 0) (s0 s : List Named) (at : ℕ) : Type 0 where
  pub done : Done (drop at s0) (drop at s)
  pub waiting : take at s ≡ take at s0

pub none_done : (Done : List Named → List Named → Type 0) (s : List Named) → Done [] [] → DoneFrom Done s s (length s)
none_done Done s empty = record { done = rw (drop_all (length s) s (omega arith)) empty; waiting = refl }

pub one_more_done : (Was Done : List Named → List Named → Type 0) (s0 s : List Named) (at i : ℕ) (d y : Named) → at ≡ i + 1 → i < length s → length s ≡ length s0 → DoneFrom Was s0 s at → (Was (drop (i + 1) s0) (drop (i + 1) s) → Done (get_or s i d ∷ drop (i + 1) s0) (y ∷ drop (i + 1) s)) → DoneFrom Done s0 (set s i y) i
one_more_done Was Done s0 s at i d y e within long w step =
    let v = subst (DoneFrom Was s0 s) e w in
    record {
      done = rw (at_last s0 s i d (omega arith) v.waiting, drop-set s i y within) (step v.done);
      waiting = take_last s0 s i y v.waiting;
    }

pub all_done : (Done : List Named → List Named → Type 0) (s0 s : List Named) (at : ℕ) → at ≡ 0 → DoneFrom Done s0 s at → Done s0 s
all_done Done s0 s at none w = (subst (DoneFrom Done s0 s) none w).done

-- a list that ends with y, with y moved to the front
pub turned : {X : Type 0} (s : List X) (y : X) (part : List X) → part ≡ s ++ y ∷ [] → drop (length part - 1) part ++ take (length part - 1) part ≡ y ∷ s
turned s y part is =
    let n : length s ≡ length (s ++ y ∷ []) - 1 = omega (arith, length_push s y) in
    ap (λ x. drop (length x - 1) x ++ take (length x - 1) x) is ∙ (λ i. drop_at s (y ∷ []) (length (s ++ y ∷ []) - 1) n i ++ take_at s (y ∷ []) (length (s ++ y ∷ []) - 1) n i)

-- the same for a prefix of a list
pub turned_right : {X : Type 0} (xs s : List X) (y : X) (after new : List X) (n : ℕ) → xs ≡ s ++ y ∷ after → length s ≡ n → new ≡ drop (length (take (n + 1) xs) - 1) (take (n + 1) xs) ++ take (length (take (n + 1) xs) - 1) (take (n + 1) xs) → new ++ drop (n + 1) xs ≡ y ∷ (s ++ after)
turned_right xs s y after new n whole is moved =
    let joined : xs ≡ (s ++ y ∷ []) ++ after = whole ∙ sym (append_assoc s (y ∷ []) after) in
    let long : length (s ++ y ∷ []) ≡ n + 1 = length_push s y ∙ ap (λ k. k + 1) is in
    let part : take (n + 1) xs ≡ s ++ y ∷ [] = ap (take (n + 1)) joined ∙ take_at (s ++ y ∷ []) after (n + 1) long in
    let rest : drop (n + 1) xs ≡ after = ap (drop (n + 1)) joined ∙ drop_at (s ++ y ∷ []) after (n + 1) long in
    ap (λ x. new ++ x) rest ∙ ap (λ x. x ++ after) (moved ∙ turned s y (take (n + 1) xs) part)
