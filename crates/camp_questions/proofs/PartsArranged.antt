-- Arranging lists of catches part by part.
use Rattle.camp_questions.proofs.Words.{◌≡◌, ◌<◌, ℕ, ◌+◌, ◌-◌, true≢false, false, ◌||◌, arith, get_or, length, take, take_more, List, [], ◌∷◌, ◌++◌, bytes_eq, append-nil, append_assoc, refl, sym, ap, ◌∙◌, subst, inl, inr, AllByRecursion, Key, Catch, AreAlike, Arrange, ArrangeIsBlocked, ArrangesAfter, IsBlockedAfter, IsBlockedByKey, is_among, is_among_is, name_of, take_all, DoNotCommute, IsOf, catch_key, KeysPart, keys_of, keep_labels, arrange_by_members, AreApart, AreOfPatch, AllCommuteUnchanged, AreBlockedAfter, Result, Ok, Err}
use Rattle.std.specs.Result.{MatchResult}
use Rattle.camp_catch.specs.Making.{GivesOrRunsOut}
use Rattle.camp_catch.specs.declared.arranging.Arranged.{Arranged}
use Rattle.camp_catch.specs.declared.arranging.Stuck.{Stuck}
use Rattle.camp_catch.specs.declared.faults.Unmade.{Unmade}
use Rattle.camp_catch.specs.declared.faults.Unmade.TheVariants.{Blocked, Memory}
use Rattle.camp_questions.proofs.BranchGrowths.{contains_alike}
use Rattle.camp_questions.proofs.PatchFronts.{AreNotOf, all_are, all_images, at_first}

module _ (names : List (List ℕ)) where
  -- a list arranged, followed by more catches arranged after it, is arranged as a whole
  pub arranged_further : (rest list more first others front behind : List Catch) → ArrangesAfter names rest list first others → ArrangesAfter names others more front behind → ArrangesAfter names rest (list ++ more) (first ++ front) behind
  arranged_further rest [] more first others front behind w v =
      subst (λ r. ArrangesAfter names r more (first ++ front) behind) w.1 (subst (λ f. ArrangesAfter names others more (f ++ front) behind) (sym w.0) v)
  arranged_further rest (k ∷ list) more first others front behind (inl w) v =
      let come = w.1 in
      inl (w.0, (come.0, come.1, come.2 ++ front, come.3, arranged_further come.1 list more come.2 others front behind come.4 v, ap (λ l. l ++ front) come.5))
  arranged_further rest (k ∷ list) more first others front behind (inr w) v =
      inr (w.0, arranged_further (rest ++ k ∷ []) list more first others front behind w.1 v)

  -- what is blocked after an arranged list is blocked in the whole
  pub sticks_further : (rest list more first others : List Catch) (patch on : Key) → ArrangesAfter names rest list first others → IsBlockedAfter names others more patch on → IsBlockedAfter names rest (list ++ more) patch on
  sticks_further rest [] more first others patch on w stuck =
      subst (λ r. IsBlockedAfter names r more patch on) w.1 stuck
  sticks_further rest (k ∷ list) more first others patch on (inl w) stuck =
      let come = w.1 in
      inr (inl (w.0, (come.0, come.1, come.3, sticks_further come.1 list more come.2 others patch on come.4 stuck)))
  sticks_further rest (k ∷ list) more first others patch on (inr w) stuck =
      inr (inr (w.0, sticks_further (rest ++ k ∷ []) list more first others patch on w.1 stuck))

  -- what is blocked stays blocked with more catches after it
  pub still_sticks : (rest list more : List Catch) (patch on : Key) → IsBlockedAfter names rest list patch on → IsBlockedAfter names rest (list ++ more) patch on
  still_sticks rest [] more patch on w = absurd w
  still_sticks rest (k ∷ list) more patch on (inl w) = inl w
  still_sticks rest (k ∷ list) more patch on (inr (inl w)) =
      let come = w.1 in
      inr (inl (w.0, (come.0, come.1, come.2, still_sticks come.1 list more patch on come.3)))
  still_sticks rest (k ∷ list) more patch on (inr (inr w)) =
      inr (inr (w.0, still_sticks (rest ++ k ∷ []) list more patch on w.1))

-- two lists of some catches have the same names
abbrev pub AgreeOn : List (List ℕ) → List (List ℕ) → List Catch → Type 0
AgreeOn names others list =
    AllByRecursion (λ k. is_among names (name_of k) ≡ is_among others (name_of k)) list

module _ (names others : List (List ℕ)) where
  still_of : (k : Catch) → is_among names (name_of k) ≡ is_among others (name_of k) → IsOf names k → IsOf others k
  still_of k same of = (is_among_is others (name_of k)).1 (sym same ∙ (is_among_is names (name_of k)).0 of)

  still_not : (k : Catch) → is_among names (name_of k) ≡ is_among others (name_of k) → ¬ (IsOf names k) → ¬ (IsOf others k)
  still_not k same never of =
      never ((is_among_is names (name_of k)).1 (same ∙ (is_among_is others (name_of k)).0 of))

  -- arranging depends only on which of the catches are of the names
  pub arranged_alike : (rest list first behind : List Catch) → AgreeOn names others list → ArrangesAfter names rest list first behind → ArrangesAfter others rest list first behind
  arranged_alike rest [] first behind same w = w
  arranged_alike rest (k ∷ list) first behind same (inl w) =
      let come = w.1 in
      inl (still_of k same.0 w.0, (come.0, come.1, come.2, come.3, arranged_alike come.1 list come.2 behind same.1 come.4, come.5))
  arranged_alike rest (k ∷ list) first behind same (inr w) =
      inr (still_not k same.0 w.0, arranged_alike (rest ++ k ∷ []) list first behind same.1 w.1)

  pub sticks_alike : (rest list : List Catch) (patch on : Key) → AgreeOn names others list → IsBlockedAfter names rest list patch on → IsBlockedAfter others rest list patch on
  sticks_alike rest [] patch on same w = absurd w
  sticks_alike rest (k ∷ list) patch on same (inl w) = inl (still_of k same.0 w.0, w.1, w.2)
  sticks_alike rest (k ∷ list) patch on same (inr (inl w)) =
      let come = w.1 in
      inr (inl (still_of k same.0 w.0, (come.0, come.1, come.2, sticks_alike come.1 list patch on same.1 come.3)))
  sticks_alike rest (k ∷ list) patch on same (inr (inr w)) =
      inr (inr (still_not k same.0 w.0, sticks_alike (rest ++ k ∷ []) list patch on same.1 w.1))

-- a catch of a patch is of its name alone
pub of_its_name : (name : List ℕ) (k : Catch) → name_of k ≡ name → IsOf (name ∷ []) k
of_its_name name k is = (is_among_is (name ∷ []) (name_of k)).1 (at_first name [] (name_of k) is)

-- the blocked catches of one patch are of its name
pub stuck_name : (name : List ℕ) (rest list : List Catch) (patch on : Key) → AreOfPatch name list → IsBlockedAfter (name ∷ []) rest list patch on → patch.name ≡ name
stuck_name name rest [] patch on own w = absurd w
stuck_name name rest (k ∷ list) patch on own (inl w) = ap (λ (key : Key). key.name) w.2 ∙ own.0
stuck_name name rest (k ∷ list) patch on own (inr (inl w)) =
    stuck_name name w.1.1 list patch on own.1 w.1.3
stuck_name name rest (k ∷ list) patch on own (inr (inr w)) =
    stuck_name name (rest ++ k ∷ []) list patch on own.1 w.1

-- catches that stay unchanged are moved in front of others that stay unchanged
pub all_came : (name : List ℕ) (going list : List Catch) → AreOfPatch name list → AllCommuteUnchanged going list → ArrangesAfter (name ∷ []) going list list going
all_came name going [] own stay = (refl, refl)
all_came name going (k ∷ list) own stay =
    inl (of_its_name name k own.0, (k, going, list, stay.0, all_came name going list own.1 stay.1, refl))

stopped_by_last : (going : List Catch) (j k : Catch) → DoNotCommute j k → IsBlockedByKey (going ++ j ∷ []) k (catch_key j)
stopped_by_last [] j k never = inr (k, [], (refl, refl), never, refl)
stopped_by_last (g ∷ going) j k never = inl (stopped_by_last going j k never)

-- if the last of the catches that go does not commute with the first catch of a patch, the patch is blocked
pub first_stuck : (name : List ℕ) (going list : List Catch) (j k dj dk : Catch) → 0 < length going → 0 < length list → j ≡ get_or going (length going - 1) dj → k ≡ get_or list 0 dk → AreOfPatch name list → DoNotCommute j k → AreBlockedAfter name going list
first_stuck name going [] j k dj dk some more is first own never = absurd (omega (arith, more))
first_stuck name going (q ∷ list) j k dj dk some more is first own never =
    let n = length going - 1 in
    let whole : going ≡ take n going ++ j ∷ [] = sym (take_all (n + 1) going (omega (arith, some))) ∙ take_more going n dj (omega (arith, some)) ∙ ap (λ x. take n going ++ x ∷ []) (sym is) in
    let stops = stopped_by_last (take n going) j q (subst (DoNotCommute j) first never) in
    (catch_key q, catch_key j, inl (of_its_name name q own.0, subst (λ l. IsBlockedByKey l q (catch_key j)) (sym whole) stops, refl))

-- none of some catches is of the patch
others_of_it : (name : List ℕ) (list : List Catch) → AreApart name list → AreNotOf (name ∷ []) list
others_of_it name list apart = all_are (λ k other. ap (λ b. b || false) other) list apart

module _ (names : List (List ℕ)) where
  -- catches at the front of a list that are of other names stay where they are
  others_first : (rest going list first left : List Catch) → AreNotOf names going → ArrangesAfter names rest (going ++ list) first left → ArrangesAfter names (rest ++ going) list first left
  others_first rest [] list first left are w =
      subst (λ r. ArrangesAfter names r list first left) (sym (append-nil rest)) w
  others_first rest (k ∷ going) list first left are (inl w) =
      absurd (true≢false (sym ((is_among_is names (name_of k)).0 w.0) ∙ are.0))
  others_first rest (k ∷ going) list first left are (inr w) =
      subst (λ r. ArrangesAfter names r list first left) (append_assoc rest (k ∷ []) going) (others_first (rest ++ k ∷ []) going list first left are.1 w.1)

  stuck_behind : (rest going list : List Catch) (patch on : Key) → AreNotOf names going → IsBlockedAfter names rest (going ++ list) patch on → IsBlockedAfter names (rest ++ going) list patch on
  stuck_behind rest [] list patch on are w =
      subst (λ r. IsBlockedAfter names r list patch on) (sym (append-nil rest)) w
  stuck_behind rest (k ∷ going) list patch on are (inl w) =
      absurd (true≢false (sym ((is_among_is names (name_of k)).0 w.0) ∙ are.0))
  stuck_behind rest (k ∷ going) list patch on are (inr (inl w)) =
      absurd (true≢false (sym ((is_among_is names (name_of k)).0 w.0) ∙ are.0))
  stuck_behind rest (k ∷ going) list patch on are (inr (inr w)) =
      subst (λ r. IsBlockedAfter names r list patch on) (append_assoc rest (k ∷ []) going) (stuck_behind (rest ++ k ∷ []) going list patch on are.1 w.1)

-- if the catches of a patch are arranged after those that go, the patch is moved in front of these, or blocked
pub arranged_or_stuck : (name : List ℕ) (set : List (List ℕ)) (going list whole : List Catch) (made : Result Arranged (Unmade Stuck)) → AreAlike set (name ∷ []) → AreApart name going → whole ≡ going ++ list
    → GivesOrRunsOut (λ answer. MatchResult answer (λ arranged. Arrange set whole arranged.first.items arranged.rest.items) (λ stuck. ArrangeIsBlocked set whole stuck.patch stuck.on)) made
    → GivesOrRunsOut (λ answer. MatchResult answer (λ arranged. ArrangesAfter (name ∷ []) going list arranged.first.items arranged.rest.items) (λ stuck. IsBlockedAfter (name ∷ []) going list stuck.patch stuck.on)) made
arranged_or_stuck name set going list whole (Ok arranged) alike apart is w =
    let first : List Catch = arranged.first.items in
    let rest : List Catch = arranged.rest.items in
    others_first (name ∷ []) [] going list first rest (others_of_it name going apart) (arrange_by_members.arranged set (name ∷ []) (contains_alike set (name ∷ []) alike) (going ++ list) first rest (subst (λ l. Arrange set l first rest) is w))
arranged_or_stuck name set going list whole (Err (Blocked stuck)) alike apart is w =
    stuck_behind (name ∷ []) [] going list stuck.patch stuck.on (others_of_it name going apart) (arrange_by_members.sticks set (name ∷ []) (contains_alike set (name ∷ []) alike) (going ++ list) stuck.patch stuck.on (subst (λ l. ArrangeIsBlocked set l stuck.patch stuck.on) is w))
arranged_or_stuck name set going list whole (Err Memory) alike apart is w = tt

-- a fact about all keys of a list holds of those left after arranging
keys_kept : (P : Key → Type 0) (names : List (List ℕ)) (keys first rest : List Key) → KeysPart names keys first rest → AllByRecursion P keys → AllByRecursion P rest
keys_kept P names [] first rest w all = subst (AllByRecursion P) (sym w.1) tt
keys_kept P names (key ∷ keys) first rest (inl w) all = keys_kept P names keys w.1.0 rest w.1.1 all.1
keys_kept P names (key ∷ keys) first rest (inr w) all =
    subst (AllByRecursion P) (sym w.1.2) (all.0, keys_kept P names keys first w.1.0 w.1.1 all.1)

of_all_keys : (P : Key → Type 0) (list : List Catch) → AllByRecursion P (keys_of list) → AllByRecursion (λ k. P (catch_key k)) list
of_all_keys P [] all = tt
of_all_keys P (k ∷ list) all = (all.0, of_all_keys P list all.1)

-- the catches left after those of other patches are of other patches
pub left_apart : (name : List ℕ) (names : List (List ℕ)) (list first left : List Catch) → Arrange names list first left → AreApart name list → AreApart name left
left_apart name names list first left w apart =
    let other : Key → Type 0 = λ key. bytes_eq key.name name ≡ false in
    of_all_keys other left (keys_kept other names (keys_of list) (keys_of first) (keys_of left) (keep_labels.arranged names list first left w) (all_images catch_key other list apart))
