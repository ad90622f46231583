-- A pull of the names to pull is not refused for a missing patch.
use Rattle.camp_questions.proofs.Words.{and_from, and_parts, ◌≡◌, ℕ, Bool, true, false, not, ◌&&◌, List, [], ◌∷◌, ◌++◌, map, filter, None, Some, Ok, Err, refl, sym, ap, ◌∙◌, inl, inr, subst, Key, Catch, has_patch, is_among, name_of, names_of, among_kept, among_once, Arrange, AreAlike, Contents, catches_of, first_lacked, is_empty, step, AreAmong, CanMoveToFront, AreBlockedBy, filter_image, is_among_is, not_among, MergesAfterCommon, Outcome, PullGives, WantedNext, common_names, NoBranch, NoPatch, NothingToDo, TooLarge, keep_labels, lists_are_unique, lists_succeed_or_are_blocked, KeysPart, keys_of, Decision, becomes, is_full_with, refused, refused_if, wanted, AnswerOf, OfBranch, OfPatches, AlongIsEnough, map-map, catch_key, ◌≢◌, ArrangeIsBlocked, arrange_by_members, in_order, GrowsToFront, Result, IfOk, IsReported, Unanswered, Refusal, Has, outcomes_are_determined, AreAfterCommon}
use Rattle.camp_branch.proofs.Words.{cond-false, cond-true}
use Rattle.camp_branch.specs.declared.faults.Blocked.TheVariants as blocked
use Rattle.camp_call.specs.declared.calls.Call.TheVariants as call
use Rattle.camp_call.specs.declared.replies.Refusal.TheVariants.{Depends, Diverged, SameBranch}
use Rattle.camp_repo.specs.Outcomes.{pulled}
use Rattle.camp_questions.proofs.Answering.{by_branch, by_patches, no_refusal, same_answer}
use Rattle.camp_questions.proofs.BranchGrowths.{none_lacked, none_lacked_among, to_front, contains_alike}
use Rattle.camp_questions.proofs.Growths.{all_done, all_own, in_order_there, names_differ, same_in_order}
use Rattle.camp_questions.specs.Along.{AlongOr, AreNamesToPull, OfTwo, HaveDiverged, ReportsAlong}
use Rattle.camp_questions.proofs.Growing.{grown_in_order}

-- an outcome does not say that one patch depends on another
abbrev pub IsFree : Outcome → Type 0
IsFree (Err (blocked.Depends patch on)) = ⊥
IsFree other = Unit {0}

-- no outcome after the common patches says so
merges_freely : (common : List (List ℕ)) (from_common chosen to : List Catch) (outcome : Outcome) → MergesAfterCommon common from_common chosen to outcome → IsFree outcome
merges_freely common from_common chosen to outcome (inr (stuck, other, sticks, e)) = subst IsFree (sym e) tt
merges_freely common from_common chosen to outcome (inl (to_common, others, first, inl (align, inl (x, y, merge, e)))) = subst IsFree (sym e) tt
merges_freely common from_common chosen to outcome (inl (to_common, others, first, inl (align, inr (left, right, sticks, e)))) = subst IsFree (sym e) tt
merges_freely common from_common chosen to outcome (inl (to_common, others, first, inr (inl (stuck, sticks, e)))) = subst IsFree (sym e) tt
merges_freely common from_common chosen to outcome (inl (to_common, others, first, inr (inr (aligned, name, align, differs, e)))) = subst IsFree (sym e) tt

wanted_freely : (names common : List (List ℕ)) (from_common list to : List Catch) (outcome : Outcome) → CanMoveToFront list names → WantedNext names list (λ chosen left. MergesAfterCommon common from_common chosen to) outcome → IsFree outcome
wanted_freely names common from_common list to outcome front (inl (chosen, left, arranged, merges)) =
    merges_freely common from_common chosen to outcome merges
wanted_freely names common from_common list to outcome front (inr (stuck, other, sticks, e)) =
    absurd ((lists_succeed_or_are_blocked.arranges names list).1 front (stuck, other, sticks))

-- if the named patches can be moved directly after the common ones, no pull of them is refused because one depends on
-- another
pub pulls_freely : (from to : List Catch) (names : List (List ℕ)) (common behind : List Catch) (outcome : Outcome) → Arrange (common_names from to) from common behind → CanMoveToFront behind names → PullGives from to names outcome → IsFree outcome
pulls_freely from to names common behind outcome arranged front (inl (first, list, also, next)) =
    let same = lists_are_unique.arranged (common_names from to) from common first behind list arranged also in
    wanted_freely names (common_names from to) first list to outcome (subst (λ l. CanMoveToFront l names) same.1 front) next
pulls_freely from to names common behind outcome arranged front (inr (stuck, other, sticks, e)) = subst IsFree (sym e) tt

-- the catches left after those arranged by names fail the test of the names
left_by : (names : List (List ℕ)) (keys first rest : List Key) → KeysPart names keys first rest → rest ≡ filter (λ k. not (is_among names k.name)) keys
left_by names [] first rest w = w.1
left_by names (key ∷ keys) first rest (inl w) =
    left_by names keys w.1.0 rest w.1.1 ∙ sym (cond-false (not (is_among names key.name)) _ _ (ap not ((is_among_is names key.name).0 w.0)))
left_by names (key ∷ keys) first rest (inr w) =
    w.1.2 ∙ ap (λ t. key ∷ t) (left_by names keys first w.1.0 w.1.1) ∙ sym (cond-true (not (is_among names key.name)) _ _ (ap not (not_among names key.name w.0)))

names_at : (list : List Catch) → map name_of list ≡ map (λ (key : Key). key.name) (keys_of list)
names_at list = sym (map-map (λ (key : Key). key.name) catch_key list)

and_not : (a b : Bool) → (a && not (a && b)) ≡ (a && not b)
and_not true b = refl
and_not false b = refl

-- the patches after the common ones are those that the other branch lacks
lacked_behind : (from to common behind : List Catch) → Arrange (common_names from to) from common behind → (n : List ℕ) → is_among (map name_of behind) n ≡ (has_patch from n && not (has_patch to n))
lacked_behind from to common behind arranged n =
    let names = common_names from to in
    let keys = left_by names (keys_of from) (keys_of common) (keys_of behind) (keep_labels.arranged names from common behind arranged) in
    let are : map name_of behind ≡ filter (λ m. not (is_among names m)) (map name_of from) =
    names_at behind ∙ ap (map (λ (key : Key). key.name)) keys ∙ sym (filter_image (λ (key : Key). key.name) (λ m. not (is_among names m)) (keys_of from)) ∙ ap (filter (λ m. not (is_among names m))) (sym (names_at from)) in
    let both : is_among names n ≡ (has_patch from n && has_patch to n) = among_kept (has_patch to) (names_of from) n ∙ ap (λ b. b && has_patch to n) (among_once (map name_of from) n) in
    ap (λ l. is_among l n) are ∙ among_kept (λ m. not (is_among names m)) (map name_of from) n ∙ ap (λ b. has_patch from n && not b) both ∙ and_not (has_patch from n) (has_patch to n)

and_true : (a b : Bool) → (a ≡ true → b ≡ true) → (a && b) ≡ a
and_true true b e = e refl
and_true false b e = refl

module _ (theirs ours : List Catch) (names told : List (List ℕ)) (none : first_lacked theirs names ≡ None) (along : AreNamesToPull theirs ours names told) where
  -- the wanted names are of patches among these
  wanted_there : AreAmong (wanted ours names) (map name_of along.1)
  wanted_there n there =
      let kept : (is_among names n && not (has_patch ours n)) ≡ true = sym (among_kept (λ m. not (has_patch ours m)) names n) ∙ there in
      lacked_behind theirs ours along.0 along.1 along.2 n ∙ and_from (has_patch theirs n) (not (has_patch ours n)) (none_lacked_among theirs names none n ((and_parts (is_among names n) (not (has_patch ours n)) kept).0)) (and_parts (is_among names n) (not (has_patch ours n)) kept).1

  -- all names to pull are among them
  all_there : AreAmong (wanted ours names ++ along.3.0) (map name_of along.1)
  all_there =
      all_own (map name_of along.1) (CanMoveToFront along.1) (AreBlockedBy along.1) (to_front along.1) (wanted ours names) along.3.0 wanted_there along.3.1

  -- they are in the answer, and `to` lacks them
  told_are : AreAlike (wanted ours told) (wanted ours names ++ along.3.0)
  told_are n =
      let all = wanted ours names ++ along.3.0 in
      let lacked : is_among all n ≡ true → (has_patch theirs n && not (has_patch ours n)) ≡ true = λ there. sym (lacked_behind theirs ours along.0 along.1 along.2 n) ∙ all_there n there in
      let own : AreAmong all (map name_of theirs) = λ m there. (and_parts (has_patch theirs m) (not (has_patch ours m)) (sym (lacked_behind theirs ours along.0 along.1 along.2 m) ∙ all_there m there)).0 in
      let ordered : is_among told n ≡ is_among all n = ap (λ l. is_among l n) along.3.2 ∙ sym (same_in_order theirs all own n) in
      among_kept (λ m. not (has_patch ours m)) told n ∙ ap (λ b. b && not (has_patch ours n)) ordered ∙ and_true (is_among all n) (not (has_patch ours n)) (λ there. (and_parts (has_patch theirs n) (not (has_patch ours n)) (lacked there)).1)

  -- with the common patches before them they can be moved to the front
  come_next : CanMoveToFront along.1 (wanted ours told)
  come_next =
      (to_front along.1).done_alike (wanted ours names ++ along.3.0) (wanted ours told) (λ n. sym (told_are n))
      (all_done (map name_of along.1) (CanMoveToFront along.1) (AreBlockedBy along.1) (to_front along.1) (wanted ours names) along.3.0 along.3.1)

  pub none_left : first_lacked theirs told ≡ None
  none_left =
      none_lacked theirs told (λ n there. in_order_there theirs (wanted ours names ++ along.3.0) n (ap (λ l. is_among l n) (sym along.3.2) ∙ there))

  is_free : IsFree (pulled theirs ours (wanted ours told))
  is_free =
      pulls_freely theirs ours (wanted ours told) along.0 along.1 (pulled theirs ours (wanted ours told)) along.2 come_next (outcomes_are_determined.pulls theirs ours (wanted ours told)).1

-- a decision refuses neither for a missing patch nor because one depends on another
record Goes (decision : Decision) : Type 0 where
  there : (name : List ℕ) → ¬ (decision ≡ refused (NoPatch name))
  free : (patch on : List ℕ) → ¬ (decision ≡ refused (Depends patch on))

becomes_goes : (state : Contents) (to : List ℕ) (outcome : Outcome) → IsFree outcome → Goes (becomes state to outcome)
becomes_goes state to (Ok list) free = record { there = λ name e. cc; free = λ patch on e. cc }
becomes_goes state to (Err (blocked.Depends patch on)) free = absurd free
becomes_goes state to (Err (blocked.Diverged name)) free = record { there = λ n e. cc; free = λ patch on e. cc }
becomes_goes state to (Err (blocked.NoMerge left right)) free = record { there = λ n e. cc; free = λ patch on e. cc }

full_goes : (b : Bool) (decision : Decision) → Goes decision → Goes (refused_if b TooLarge decision)
full_goes true decision goes = record { there = λ name e. cc; free = λ patch on e. cc }
full_goes false decision goes = goes

none_goes : (b : Bool) (decision : Decision) → Goes decision → Goes (refused_if b NothingToDo decision)
none_goes true decision goes = record { there = λ name e. cc; free = λ patch on e. cc }
none_goes false decision goes = goes

goes : (state : Contents) (from to : List ℕ) (names told : List (List ℕ)) (theirs ours : List Catch) → Has state from theirs → Has state to ours → from ≢ to → first_lacked theirs names ≡ None → AreNamesToPull theirs ours names told → Goes (step state (call.Pull from to (Some told)))
goes state from to names told theirs ours is_from is_to two none comes =
    rw is_from (rw is_to (rw (names_differ from to two) (rw (none_left theirs ours names told none comes) (none_goes (is_empty (wanted ours told)) _ (full_goes (is_full_with state.limits.catches ours theirs (wanted ours told)) _ (becomes_goes state to (pulled theirs ours (wanted ours told)) (is_free theirs ours names told none comes)))))))

pub along_is_enough : AlongIsEnough
along_is_enough state from to names told w =
    let Between : List Catch → List Catch → AnswerOf (List (List ℕ)) → Type 0 = λ theirs ours. OfTwo from to (OfPatches theirs names (AlongOr theirs ours names)) in
    let never : (refusal : Refusal) → Ok told ≡ Err refusal → Goes (step state (call.Pull from to (Some told))) = λ refusal e. absurd (no_refusal refusal told (Ok told) e refl) in
    let done : Goes (step state (call.Pull from to (Some told))) =
    by_branch state from (λ theirs. OfBranch state to (Between theirs)) (Ok told) w (λ none. never (NoBranch from)) (λ theirs is_from v.
    by_branch state to (Between theirs) (Ok told) v (λ none. never (NoBranch to)) (λ ours is_to u. elim u [
      | inl one ↦ never (SameBranch to) one.1
      | inr two ↦ by_patches theirs names (AlongOr theirs ours names) (Ok told) two.1 (λ name lacks. never (NoPatch name)) (λ none t. elim t [
        | inl it ↦ goes state from to names told theirs ours is_from is_to two.0 none (subst (AreNamesToPull theirs ours names) (same_answer (Ok told) it.0 told it.1 refl) it.2)
        | inr apart ↦ never (Diverged apart.0) apart.1
      ])
    ])) in
    (done.there, done.free)

-- ---- the names to pull, and why there are none

-- by a set of the common names
pub stands_behind : (from to : List Catch) (names : List (List ℕ)) (first rest : List Catch) → AreAlike names (common_names from to) → Arrange names from first rest → AreAfterCommon from to rest
stands_behind from to names first rest alike w =
    (first, arrange_by_members.arranged names (common_names from to) (contains_alike names (common_names from to) alike) from first rest w)

pub have_diverged : (from to : List Catch) (names : List (List ℕ)) (patch on : Key) → AreAlike names (common_names from to) → ArrangeIsBlocked names from patch on → HaveDiverged from to patch.name
have_diverged from to names patch on alike w =
    (patch, on, arrange_by_members.sticks names (common_names from to) (contains_alike names (common_names from to) alike) from patch on w, refl)

-- the names that have grown after the common patches are those to pull
pub comes_along : (from to behind : List Catch) (names set grown told : List (List ℕ)) → AreAfterCommon from to behind → AreAlike set (wanted to names) → GrowsToFront behind set grown → told ≡ in_order from grown → AreNamesToPull from to names told
comes_along from to behind names set grown told stand alike grows is =
    (stand.0, behind, stand.1, grown_in_order (map name_of behind) (CanMoveToFront behind) (AreBlockedBy behind) (to_front behind) from (wanted to names) set grown told alike grows is)

module _ (state : Contents) (from to : List ℕ) (names : List (List ℕ)) (theirs ours : List Catch) (is_from : catches_of state.branches from ≡ Some theirs) (is_to : catches_of state.branches to ≡ Some ours) where
  pub along_told : {E : Type 0} (made : Result (List (List ℕ)) E) (result : Result (List (List ℕ)) Unanswered) → IsReported made result → IfOk made (AreNamesToPull theirs ours names) → from ≢ to → first_lacked theirs names ≡ None → ReportsAlong state from to names result
  along_told (Ok told) result is w two none =
      rw is (rw is_from (rw is_to (inr (two, rw none (inl (told, refl, w))))))
  along_told (Err error) result is w two none =
      rw is (record { theirs = theirs; ours = ours; is_from = is_from; is_to = is_to; are_two = two; has = none })
