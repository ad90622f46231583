-- Steps of catches that are moved within a list to arrange and align it.
use Rattle.std.proofs.lemmas.Cmp.{nat_list_cmp_total, eq_by_cmp_equiv}
use Rattle.std.proofs.lemmas.Map.Views.{Contains-from_any, list_any-from_Contains, tells_apart}
use Rattle.std.specs.Bool.{Decides}
use Rattle.camp_catch.proofs.Words.{Contains, List, [], ap, arith, drop, get_or, inl, inr, length, refl, subst, suc, sym, take, ℕ, ◌++◌, ◌+◌, ◌<◌, ◌∙◌, ◌∷◌, ◌≡◌, ◌≢◌, ◌≤◌, append_assoc, drop_at, drop_more, length-append, length-take-le, length_push, nil_from_length, take_at, slice_cmp, FinMap, contains_key, contains_key-keys, keys, nat_cmp-IsAntisymmetric, slice_cmp-IsAntisymmetric, nat_cmp, Key, Align, AlignIsBlocked, Arrange, ArrangeIsBlocked, ArrangesAfter, CatchCommutesBeforeAll, CatchMovesToFront, DoNotCommute, IsOf, IsBlockedAfter, IsBlockedByKey, catch_key, CatchMovesToFrontInPlace, FirstWithKey, LacksKey, Catch}
use Rattle.camp_catch.proofs.ListResults.{coming}

-- the element at an index of a list, and the elements after it
pub stands_at : {X : Type 0} (list : List X) (i : ℕ) (d x : X) → i < length list → x ≡ get_or list i d → drop i list ≡ x ∷ drop (i + 1) list
stands_at list i d x within is = drop_more list i d within ∙ ap (λ y. y ∷ drop (i + 1) list) (sym is)

-- a catch is blocked by the first catch that it cannot commute past
pub stops_behind : (front : List Catch) (j : Catch) (list : List Catch) (k coming : Catch) (t : List Catch) → CatchCommutesBeforeAll list k coming t → DoNotCommute j coming → IsBlockedByKey (front ++ j ∷ list) k (catch_key j)
stops_behind [] j list k coming t w never = inr (coming, t, w, never, refl)
stops_behind (i ∷ front) j list k coming t w never = inl (stops_behind front j list k coming t w never)

lacks_first : (key : Key) (j : Catch) (list : List Catch) → LacksKey key (j ∷ list) → catch_key j ≢ key
lacks_first key j list lacks = lacks 0 j (omega arith)

lacks_rest : (key : Key) (j : Catch) (list : List Catch) → LacksKey key (j ∷ list) → LacksKey key list
lacks_rest key j list lacks = λ k d within. lacks (suc k) d (omega arith)

-- a label that the list lacks can't be moved to its front
pub none_first : (key : Key) (list : List Catch) (k' : Catch) (others : List Catch) → LacksKey key list → ¬ (CatchMovesToFront key list k' others)
none_first key [] k' others lacks w = w
none_first key (j ∷ list) k' others lacks (inl w) = lacks_first key j list lacks w.0
none_first key (j ∷ list) k' others lacks (inr w) =
    let come = w.1 in
    none_first key list come.0 come.2 (lacks_rest key j list lacks) come.3

-- the first catch with a label is commuted past those before it
first_from : (key : Key) (before : List Catch) (first : Catch) (after : List Catch) (k' : Catch) (moved : List Catch) → LacksKey key before → catch_key first ≡ key → CatchCommutesBeforeAll before first k' moved → CatchMovesToFront key (before ++ first ∷ after) k' (moved ++ after)
first_from key [] first after k' moved lacks is m = inl (is, m.0, ap (λ x. x ++ after) m.1)
first_from key (j ∷ before) first after k' moved lacks is m =
    inr (lacks_first key j before lacks, (m.0, m.1, m.2 ++ after, first_from key before first after m.0 m.2 (lacks_rest key j before lacks) is m.3, m.4, ap (λ x. x ++ after) m.5))

-- conversely, a catch at the front was commuted there
before_from : (key : Key) (before : List Catch) (first : Catch) (after : List Catch) (k' : Catch) (t : List Catch) → LacksKey key before → catch_key first ≡ key → CatchMovesToFront key (before ++ first ∷ after) k' t → (moved : List Catch) × CatchCommutesBeforeAll before first k' moved
before_from key [] first after k' t lacks is (inl w) = ([], (w.1, refl))
before_from key [] first after k' t lacks is (inr w) = absurd (w.0 is)
before_from key (j ∷ before) first after k' t lacks is (inl w) = absurd (lacks_first key j before lacks w.0)
before_from key (j ∷ before) first after k' t lacks is (inr w) =
    let come = w.1 in
    let rest = before_from key before first after come.0 come.2 (lacks_rest key j before lacks) is come.3 in
    (come.1 ∷ rest.0, (come.0, come.1, rest.0, rest.1, come.4, refl))

-- the first catch with a label, with the catches before it and those after it
module _ {key : Key} {list : List Catch} {at : ℕ} (w : FirstWithKey key list at) where
  pub stands_first : (take at list ≡ w.before) × (drop at list ≡ w.first ∷ w.after)
  stands_first =
      (ap (take at) w.is ∙ take_at w.before (w.first ∷ w.after) at w.stands, ap (drop at) w.is ∙ drop_at w.before (w.first ∷ w.after) at w.stands)

  pub stands_there : at ≡ 0 → CatchMovesToFrontInPlace key list list
  stands_there none =
      let is : list ≡ w.first ∷ w.after = w.is ∙ ap (λ before. before ++ w.first ∷ w.after) (nil_from_length w.before (w.stands ∙ none)) in
      (w.first, w.after, subst (λ l. CatchMovesToFront key l w.first w.after) (sym is) (inl (w.labelled, refl, refl)), is)

  pub comes_first : (k' : Catch) (moved : List Catch) → CatchCommutesBeforeAll w.before w.first k' moved → CatchMovesToFront key list k' (moved ++ w.after)
  comes_first k' moved m = rw w.is (first_from key w.before w.first w.after k' moved w.lacks w.labelled m)

  pub stays_behind : (on : Key) → IsBlockedByKey w.before w.first on → (any : List Catch) → ¬ (CatchMovesToFrontInPlace key list any)
  stays_behind on stops any m =
      let came = before_from key w.before w.first w.after m.0 m.1 w.lacks w.labelled (subst (λ x. CatchMovesToFront key x m.0 m.1) w.is m.2) in
      (coming w.before w.first).apart (m.0, came.0) on came.1 stops

-- a map of names has a name exactly if that is one of its keys
pub names_decide : {X : Type 0} (m : FinMap (slice_cmp nat_cmp) X) (name : List ℕ) → Decides (contains_key m name) (Contains (keys m) name)
names_decide m name =
    let seen = contains_key-keys m name in
    (λ e. Contains-from_any (tells_apart (slice_cmp-IsAntisymmetric nat_cmp-IsAntisymmetric)) name (keys m) (sym seen ∙ e), λ c. seen ∙ list_any-from_Contains (eq_by_cmp_equiv nat_list_cmp_total) name (keys m) c)

-- of a whole list, `first` has been moved to the front and `rest` comes after it; the result depends on what is still
-- to be arranged
pub record IsArrangedUpTo (names : List (List ℕ)) (whole first rest list : List Catch) : Type 0 where
  pub goes : (t others : List Catch) → ArrangesAfter names rest list t others → Arrange names whole (first ++ t) others
  pub sticks : (patch on : Key) → IsBlockedAfter names rest list patch on → ArrangeIsBlocked names whole patch on

pub arranged_with_other : {names : List (List ℕ)} {whole first rest list : List Catch} {k : Catch} → IsArrangedUpTo names whole first rest (k ∷ list) → ¬ (IsOf names k) → IsArrangedUpTo names whole first (rest ++ k ∷ []) list
arranged_with_other up not = record { goes = λ t others w. up.goes t others (inr (not, w)); sticks = λ patch on w. up.sticks patch on (inr (inr (not, w))) }

pub arranged_with_named : {names : List (List ℕ)} {whole first rest rest' list : List Catch} {k : Catch} (k' : Catch) → IsArrangedUpTo names whole first rest (k ∷ list) → IsOf names k → CatchCommutesBeforeAll rest k k' rest' → IsArrangedUpTo names whole (first ++ k' ∷ []) rest' list
arranged_with_named {first = first} k' up is come = record { goes = λ t others w. rw (append_assoc first (k' ∷ []) t) (up.goes (k' ∷ t) others (inl (is, (k', _, t, come, w, refl)))); sticks = λ patch on w. up.sticks patch on (inr (inl (is, (k', _, come, w)))) }

-- of a whole list, `front` is in order; the result depends on the catches after it and on the rest of the order
pub record IsAlignedUpTo (all : List Key) (whole front : List Catch) (order : List Key) (back : List Catch) : Type 0 where
  pub goes : (t : List Catch) → Align order back t → Align all whole (front ++ t)
  pub sticks : (stuck : Key) → AlignIsBlocked order back stuck → AlignIsBlocked all whole stuck

pub aligned_with : {all order : List Key} {whole front back others : List Catch} {key : Key} (k' : Catch) → IsAlignedUpTo all whole front (key ∷ order) back → CatchMovesToFront key back k' others → IsAlignedUpTo all whole (front ++ k' ∷ []) order others
aligned_with {front = front} k' up come = record { goes = λ t w. rw (append_assoc front (k' ∷ []) t) (up.goes (k' ∷ t) (k', _, t, come, w, refl)); sticks = λ stuck w. up.sticks stuck (inr (k', _, come, w)) }

-- the next catch of the order has been moved to its position
pub aligned_more : {all order : List Key} {whole : List Catch} {key : Key} (s now xs : List Catch) (at : ℕ) → at ≤ length s → CatchMovesToFrontInPlace key (drop at s) now → xs ≡ take at s ++ now → IsAlignedUpTo all whole (take at s) (key ∷ order) (drop at s) → (at + 1 ≤ length xs) × IsAlignedUpTo all whole (take (at + 1) xs) order (drop (at + 1) xs)
aligned_more s now xs at within (k', others, come, now_is) xs_is up =
    let front : List Catch = take at s ++ k' ∷ [] in
    let is : xs ≡ front ++ others = xs_is ∙ ap (λ x. take at s ++ x) now_is ∙ sym (append_assoc (take at s) (k' ∷ []) others) in
    let long : length front ≡ at + 1 = length_push (take at s) k' ∙ ap (λ n. n + 1) (length-take-le at s within) in
    let count : length xs ≡ length front + length others = ap length is ∙ length-append front others in
    (omega arith, rw (is, take_at front others (at + 1) long, drop_at front others (at + 1) long) (aligned_with k' up come))
