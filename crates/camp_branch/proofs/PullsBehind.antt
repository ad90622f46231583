-- The outcome of a pull between the catches after two agreeing prefixes.
use Rattle.camp_branch.proofs.Words.{◌≡◌, ℕ, ◌||◌, ◌&&◌, Ok, Err, List, ◌++◌, drop, ap, ◌∙◌, subst, contains_key, keys, Catch, Agree, has_patch, Outcome, PullBy, PullGives, common_names, Blocked, Bool, true, false, [], ◌∷◌, map, take, refl, sym, inl, inr, take-append-drop, Key, ArrangesAfter, IsOf, IsBlockedAfter, name_of, MergesAfterCommon, ◌↔◌, Contains, names_decide, AllByRecursion, or_right, or-false, or_comm, and_comm, false≢true}
use Rattle.camp_branch.proofs.AgreedFronts.{blocked_behind, goes_behind, behind_has}
use Rattle.camp_branch.proofs.BranchFields.{Indexes, Names}
use Rattle.camp_branch.proofs.Names.{is_among_is, each_named}
use Rattle.camp_branch.proofs.NamesKept.{among_common}

module _ (names others : List (List ℕ)) where
  -- of the catches of a list, those of the one names are those of the others
  abbrev AlikeOn : List Catch → Type 0
  AlikeOn list = AllByRecursion (λ k. IsOf names k ↔ IsOf others k) list

  alike_on : (list : List Catch) → ((n : List ℕ) → Contains (map name_of list) n → (Contains names n ↔ Contains others n)) → AlikeOn list
  alike_on list each = each_named name_of _ list (λ k c. each (name_of k) c)

  arranged_alike : (rest list first t : List Catch) → AlikeOn list → ArrangesAfter names rest list first t → ArrangesAfter others rest list first t
  arranged_alike rest [] first t same w = w
  arranged_alike rest (k ∷ list) first t same (inl w) =
      let come = w.1 in
      inl (same.0.0 w.0, (come.0, come.1, come.2, come.3, arranged_alike come.1 list come.2 t same.1 come.4, come.5))
  arranged_alike rest (k ∷ list) first t same (inr w) =
      inr (λ is. w.0 (same.0.1 is), arranged_alike (rest ++ k ∷ []) list first t same.1 w.1)

  stuck_alike : (rest list : List Catch) (patch on : Key) → AlikeOn list → IsBlockedAfter names rest list patch on → IsBlockedAfter others rest list patch on
  stuck_alike rest [] patch on same w = w
  stuck_alike rest (k ∷ list) patch on same (inl w) = inl (same.0.0 w.0, w.1, w.2)
  stuck_alike rest (k ∷ list) patch on same (inr (inl w)) =
      let come = w.1 in
      inr (inl (same.0.0 w.0, (come.0, come.1, come.2, stuck_alike come.1 list patch on same.1 come.3)))
  stuck_alike rest (k ∷ list) patch on same (inr (inr w)) =
      inr (inr (λ is. w.0 (same.0.1 is), stuck_alike (rest ++ k ∷ []) list patch on same.1 w.1))

  merges_alike : (from_common chosen to : List Catch) (outcome : Outcome) → AlikeOn to → MergesAfterCommon names from_common chosen to outcome → MergesAfterCommon others from_common chosen to outcome
  merges_alike from_common chosen to outcome same (inl w) = inl (w.0, w.1, arranged_alike [] to w.0 w.1 same w.2, w.3)
  merges_alike from_common chosen to outcome same (inr w) = inr (w.0, w.1, stuck_alike [] to w.0 w.1 same w.2, w.3)

  pull_alike : (from to : List Catch) (wanted : List (List ℕ)) (outcome : Outcome) → AlikeOn from → AlikeOn to → PullBy names from to wanted outcome → PullBy others from to wanted outcome
  pull_alike from to wanted outcome a b (inl (x, y, w, inl v)) =
      inl (x, y, arranged_alike [] from x y a w, inl (v.0, v.1, v.2, merges_alike x v.0 to outcome b v.3))
  pull_alike from to wanted outcome a b (inl (x, y, w, inr v)) = inl (x, y, arranged_alike [] from x y a w, inr v)
  pull_alike from to wanted outcome a b (inr w) = inr (w.0, w.1, stuck_alike [] from w.0 w.1 a w.2, w.3)

-- whether a patch of either list is common: by whether it is in the lists, and by whether it is in the branches
of_theirs : (a b f t : Bool) → a ≡ true → f ≡ true → (b ≡ true → t ≡ true) → ((a && t) || (b && f)) ≡ (f && t)
of_theirs true true true t is has within = or_right t true refl ∙ sym (within refl)
of_theirs true false true t is has within = or-false t
of_theirs true b false t is has within = absurd (false≢true has)
of_theirs false b f t is has within = absurd (false≢true is)

module _ (from to : List Catch) (common : Names) (m : ℕ) (has : (n : List ℕ) → contains_key common n ≡ ((has_patch (drop m from) n && has_patch to n) || (has_patch (drop m to) n && has_patch from n))) where
  in_whole : (list : List Catch) (n : List ℕ) → has_patch (drop m list) n ≡ true → has_patch list n ≡ true
  in_whole list n e =
      ap (λ l. has_patch l n) (sym (take-append-drop m list)) ∙ behind_has (take m list) (drop m list) n e

  same_at : (n : List ℕ) → contains_key common n ≡ (has_patch from n && has_patch to n) → (Contains (keys common) n ↔ Contains (common_names from to) n)
  same_at n e =
      let same = e ∙ sym (among_common from to n) in
      (λ c. (is_among_is (common_names from to) n).1 (sym same ∙ (names_decide common n).1 c), λ c. (names_decide common n).0 (same ∙ (is_among_is (common_names from to) n).0 c))

  in_theirs : (n : List ℕ) → Contains (map name_of (drop m from)) n → (Contains (keys common) n ↔ Contains (common_names from to) n)
  in_theirs n c =
      let is = (is_among_is (map name_of (drop m from)) n).0 c in
      same_at n (has n ∙ of_theirs _ _ _ _ is (in_whole from n is) (in_whole to n))

  in_ours : (n : List ℕ) → Contains (map name_of (drop m to)) n → (Contains (keys common) n ↔ Contains (common_names from to) n)
  in_ours n c =
      let is = (is_among_is (map name_of (drop m to)) n).0 c in
      same_at n (has n ∙ or_comm (has_patch (drop m from) n && has_patch to n) (has_patch (drop m to) n && has_patch from n) ∙ of_theirs _ _ _ _ is (in_whole to n is) (in_whole from n) ∙ and_comm (has_patch to n) (has_patch from n))

  -- a pull between the catches after prefixes, with the set of the common names among them
  pub pull_by_those : (wanted : List (List ℕ)) (outcome : Outcome) → PullBy (keys common) (drop m from) (drop m to) wanted outcome → PullBy (common_names from to) (drop m from) (drop m to) wanted outcome
  pull_by_those wanted outcome =
      pull_alike (keys common) (common_names from to) (drop m from) (drop m to) wanted outcome (alike_on (keys common) (common_names from to) (drop m from) in_theirs) (alike_on (keys common) (common_names from to) (drop m to) in_ours)

-- the pulled or blocked catches after the prefixes are those of the whole branches
pub record PullsWhole (from to theirs ours : List Catch) (common : Names) (wanted : List (List ℕ)) : Type 0 where
  pub gives : (taken : List Catch) → PullBy (keys common) theirs ours wanted (Ok (ours ++ taken)) → PullGives from to wanted (Ok (to ++ taken))
  pub blocked : (blocked : Blocked) → PullBy (keys common) theirs ours wanted (Err blocked) → PullGives from to wanted (Err blocked)

module _ (from to list other theirs ours : List Catch) (m : ℕ) (index other_index common : Names) (is : list ≡ from) (is_too : other ≡ to) (behind : theirs ≡ drop m list) (behind_too : ours ≡ drop m other) (named : Indexes index list) (named_too : Indexes other_index other) (has : (n : List ℕ) → contains_key common n ≡ ((has_patch theirs n && contains_key other_index n) || (has_patch ours n && contains_key index n))) (agree : Agree from to m) (wanted : List (List ℕ)) where
  theirs_is : theirs ≡ drop m from
  theirs_is = behind ∙ ap (drop m) is

  ours_is : ours ≡ drop m to
  ours_is = behind_too ∙ ap (drop m) is_too

  common_has : (n : List ℕ) → contains_key common n ≡ ((has_patch (drop m from) n && has_patch to n) || (has_patch (drop m to) n && has_patch from n))
  common_has n =
      let in_from = named n ∙ ap (λ l. has_patch l n) is in
      let in_to = named_too n ∙ ap (λ l. has_patch l n) is_too in
      has n ∙ (λ i. (has_patch (theirs_is i) n && in_to i) || (has_patch (ours_is i) n && in_from i))

  by_names : (outcome : Outcome) → PullBy (keys common) theirs ours wanted outcome → PullBy (common_names from to) (drop m from) (drop m to) wanted outcome
  by_names outcome w =
      pull_by_those from to common m common_has wanted outcome (subst (λ l. PullBy (keys common) l (drop m to) wanted outcome) theirs_is (subst (λ l. PullBy (keys common) theirs l wanted outcome) ours_is w))

  pub pulls_whole : PullsWhole from to theirs ours common wanted
  pulls_whole = record {
    gives = λ taken w. goes_behind from to wanted m agree taken (by_names (Ok (drop m to ++ taken)) (subst (λ l. PullBy (keys common) theirs ours wanted (Ok (l ++ taken))) ours_is w));
    blocked = λ blocked w. blocked_behind from to wanted m agree blocked (by_names (Err blocked) w);
  }
