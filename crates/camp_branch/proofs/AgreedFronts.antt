-- If prefixes of two branches agree, a pull depends only on the catches after them.
use Rattle.camp_branch.proofs.Words.{◌≡◌, ◌≤◌, ◌+◌, ℕ, Bool, true, ◌||◌, Ok, Err, List, [], ◌∷◌, ◌++◌, map, bytes_eq, take, drop, length, slice_range, ◌-◌, refl, sym, ap, ◌∙◌, subst, inl, inr, arith, append_assoc, length-append, length-take-le, take-append-drop, take-append-le, Key, Align, AlignIsBlocked, Arrange, ArrangeIsBlocked, CatchMovesToFront, IsOf, Catch, keep_labels, Agree, has_patch, is_among, name_of, DiffersAt, MergedLast, MergesAfterCommon, Outcome, PullBy, PullGives, SameThen, common_names, Blocked, Contains, catch_key, keys_of, AllByRecursion, or_assoc, or_comm, or_left, and_from}
use Rattle.std.proofs.Math.Seq.{take-append-add, take-length}
use Rattle.camp_catch.specs.Laws.{KeysAlign}
use Rattle.camp_branch.proofs.Names.{is_among_is, or_true, each_named, has_split}
use Rattle.camp_branch.proofs.NamesKept.{among_common}
use Rattle.camp_branch.proofs.BranchLabels.{key_names, named_by_keys}

-- an outcome with a list before what it gives
abbrev fronted : List Catch → Outcome → Outcome
fronted front (Ok list) = Ok (front ++ list)
fronted front (Err blocked) = Err blocked

-- each catch is of one of the patches
abbrev pub AllOf : List (List ℕ) → List Catch → Type 0
AllOf names list = AllByRecursion (IsOf names) list

all_of : (names : List (List ℕ)) (list : List Catch) → ((n : List ℕ) → Contains (map name_of list) n → Contains names n) → AllOf names list
all_of names list each = each_named name_of (IsOf names) list (λ k c. each (name_of k) c)

module _ (names : List (List ℕ)) where
  pub arranged_front : (front list first rest : List Catch) → AllOf names front → Arrange names list first rest → Arrange names (front ++ list) (front ++ first) rest
  arranged_front [] list first rest a w = w
  arranged_front (k ∷ front) list first rest a w =
      inl (a.0, (k, [], front ++ first, (refl, refl), arranged_front front list first rest a.1 w, refl))

  pub sticks_front : (front list : List Catch) (patch on : Key) → AllOf names front → ArrangeIsBlocked names list patch on → ArrangeIsBlocked names (front ++ list) patch on
  sticks_front [] list patch on a w = w
  sticks_front (k ∷ front) list patch on a w =
      inr (inl (a.0, (k, [], (refl, refl), sticks_front front list patch on a.1 w)))

-- a catch that can be moved to the front of a prefix can be moved to the front of the whole list
comes_within : (key : Key) (list more : List Catch) (k : Catch) (others : List Catch) → CatchMovesToFront key list k others → CatchMovesToFront key (list ++ more) k (others ++ more)
comes_within key [] more k others w = absurd w
comes_within key (j ∷ list) more k others (inl w) = inl (w.0, w.1, ap (λ l. l ++ more) w.2)
comes_within key (j ∷ list) more k others (inr w) =
    let come = w.1 in
    inr (w.0, (come.0, come.1, come.2 ++ more, comes_within key list more come.0 come.2 come.3, come.4, ap (λ l. l ++ more) come.5))

-- if a prefix can be put in the order of another, so can it with more catches after both
pub aligned_front : (others front to_common from_common aligned : List Catch) → Align (keys_of others) front others → Align (keys_of to_common) from_common aligned → Align (keys_of (others ++ to_common)) (front ++ from_common) (others ++ aligned)
aligned_front [] front to_common from_common aligned v w = subst (λ f. Align (keys_of to_common) (f ++ from_common) aligned) v w
aligned_front (g ∷ others) front to_common from_common aligned v w =
    let tail : others ≡ v.2 = cc v.5 in
    let head : g ≡ v.0 = cc v.5 in
    let rest = subst (Align (keys_of others) v.1) (sym tail) v.4 in
    (v.0, v.1 ++ from_common, others ++ aligned, comes_within (catch_key g) front from_common v.0 v.1 v.3, aligned_front others v.1 to_common from_common aligned rest w, ap (λ k. k ∷ (others ++ aligned)) head)

align_sticks_front : (others front to_common from_common : List Catch) (stuck : Key) → Align (keys_of others) front others → AlignIsBlocked (keys_of to_common) from_common stuck → AlignIsBlocked (keys_of (others ++ to_common)) (front ++ from_common) stuck
align_sticks_front [] front to_common from_common stuck v w = subst (λ f. AlignIsBlocked (keys_of to_common) (f ++ from_common) stuck) v w
align_sticks_front (g ∷ others) front to_common from_common stuck v w =
    let tail : others ≡ v.2 = cc v.5 in
    let rest = subst (Align (keys_of others) v.1) (sym tail) v.4 in
    inr (v.0, v.1 ++ from_common, comes_within (catch_key g) front from_common v.0 v.1 v.3, align_sticks_front others v.1 to_common from_common stuck rest w)

differs_front : (front aligned to_common : List Catch) (name : List ℕ) → DiffersAt aligned to_common name → DiffersAt (front ++ aligned) (front ++ to_common) name
differs_front [] aligned to_common name w = w
differs_front (k ∷ front) aligned to_common name w = inr (refl, differs_front front aligned to_common name w)

-- a prefix of `from`, and the prefix of `to` with which it agrees
module _ (names : List (List ℕ)) (front others : List Catch) (a : AllOf names front) (b : AllOf names others) (agree : Align (keys_of others) front others) where
  last_front : (chosen beside to : List Catch) (outcome : Outcome) → MergedLast chosen beside (λ taken rest o. o ≡ Ok (to ++ taken)) outcome → MergedLast chosen beside (λ taken rest o. o ≡ Ok ((others ++ to) ++ taken)) (fronted others outcome)
  last_front chosen beside to outcome (inl w) =
      inl (w.0, w.1, w.2, ap (fronted others) w.3 ∙ ap Ok (sym (append_assoc others to w.0)))
  last_front chosen beside to outcome (inr w) = inr (w.0, w.1, w.2, ap (fronted others) w.3)

  same_then : (from_common to_common chosen beside to : List Catch) (outcome : Outcome) → SameThen from_common to_common (MergedLast chosen beside (λ taken rest o. o ≡ Ok (to ++ taken))) outcome → SameThen (front ++ from_common) (others ++ to_common) (MergedLast chosen beside (λ taken rest o. o ≡ Ok ((others ++ to) ++ taken))) (fronted others outcome)
  same_then from_common to_common chosen beside to outcome (inl w) =
      inl (aligned_front others front to_common from_common to_common agree w.0, last_front chosen beside to outcome w.1)
  same_then from_common to_common chosen beside to outcome (inr (inl w)) =
      inr (inl (w.0, align_sticks_front others front to_common from_common w.0 agree w.1, ap (fronted others) w.2))
  same_then from_common to_common chosen beside to outcome (inr (inr w)) =
      inr (inr (others ++ w.0, w.1, aligned_front others front to_common from_common w.0 agree w.2, differs_front others w.0 to_common w.1 w.3, ap (fronted others) w.4))

  merges_front : (from_common chosen to : List Catch) (outcome : Outcome) → MergesAfterCommon names from_common chosen to outcome → MergesAfterCommon names (front ++ from_common) chosen (others ++ to) (fronted others outcome)
  merges_front from_common chosen to outcome (inl w) =
      inl (others ++ w.0, w.1, arranged_front names others to w.0 w.1 b w.2, same_then from_common w.0 chosen w.1 to outcome w.3)
  merges_front from_common chosen to outcome (inr w) =
      inr (w.0, w.1, sticks_front names others to w.0 w.1 b w.2, ap (fronted others) w.3)

  -- a pull depends only on the catches after the two agreeing prefixes
  pull_front : (from to : List Catch) (wanted : List (List ℕ)) (outcome : Outcome) → PullBy names from to wanted outcome → PullBy names (front ++ from) (others ++ to) wanted (fronted others outcome)
  pull_front from to wanted outcome (inl (x, y, w, inl v)) =
      inl (front ++ x, y, arranged_front names front from x y a w, inl (v.0, v.1, v.2, merges_front x v.0 to outcome v.3))
  pull_front from to wanted outcome (inl (x, y, w, inr v)) =
      inl (front ++ x, y, arranged_front names front from x y a w, inr (v.0, v.1, v.2, ap (fronted others) v.3))
  pull_front from to wanted outcome (inr w) =
      inr (w.0, w.1, sticks_front names front from w.0 w.1 a w.2, ap (fronted others) w.3)

or_swap : (a b c : Bool) → (a || (b || c)) ≡ (b || (a || c))
or_swap a b c = sym (or_assoc a b c) ∙ ap (λ x. x || c) (or_comm a b) ∙ or_assoc b a c

-- a list has the patches of its prefix and those of the rest
pub front_has : (front rest : List Catch) (n : List ℕ) → has_patch front n ≡ true → has_patch (front ++ rest) n ≡ true
front_has front rest n e = has_split front rest n ∙ or_left (has_patch front n) (has_patch rest n) e

pub behind_has : (front rest : List Catch) (n : List ℕ) → has_patch rest n ≡ true → has_patch (front ++ rest) n ≡ true
behind_has front rest n e = has_split front rest n ∙ or_true (has_patch front n) (has_patch rest n) e

from_middle : (before after : List Key) (key : Key) (n : List ℕ) → is_among (key_names (before ++ key ∷ after)) n ≡ (bytes_eq n key.name || is_among (key_names (before ++ after)) n)
from_middle [] after key n = refl
from_middle (b ∷ before) after key n =
    ap (λ t. bytes_eq n b.name || t) (from_middle before after key n) ∙ or_swap (bytes_eq n b.name) (bytes_eq n key.name) _

aligned_names : (order keys aligned : List Key) → KeysAlign order keys aligned → (n : List ℕ) → is_among (key_names keys) n ≡ is_among (key_names aligned) n
aligned_names [] keys aligned w n = ap (λ l. is_among (key_names l) n) (sym w)
aligned_names (key ∷ order) keys aligned w n =
    ap (λ l. is_among (key_names l) n) w.3 ∙ from_middle w.0 w.1 key n ∙ ap (λ b. bytes_eq n key.name || b) (aligned_names order (w.0 ++ w.1) w.2 w.4 n) ∙ sym (ap (λ l. is_among (key_names l) n) w.5)

-- fronts that agree have the same patches
agree_names : (front others : List Catch) → Align (keys_of others) front others → (n : List ℕ) → has_patch front n ≡ has_patch others n
agree_names front others agree n =
    ap (λ l. is_among l n) (named_by_keys front) ∙ aligned_names (keys_of others) (keys_of front) (keys_of others) (keep_labels.aligned (keys_of others) front others agree) n ∙ ap (λ l. is_among l n) (sym (named_by_keys others))

module _ (front others from to : List Catch) (agree : Align (keys_of others) front others) where
  -- each patch of the fronts is common
  common_within : (n : List ℕ) → has_patch others n ≡ true → Contains (common_names (front ++ from) (others ++ to)) n
  common_within n e =
      let one = front_has front from n (agree_names front others agree n ∙ e) in
      let other = front_has others to n e in
      (is_among_is (common_names (front ++ from) (others ++ to)) n).1 (among_common (front ++ from) (others ++ to) n ∙ and_from _ _ one other)

  -- a pull between the rests gives the pull between the whole branches, if their prefixes agree
  pub pull_behind : (wanted : List (List ℕ)) (outcome : Outcome) → PullBy (common_names (front ++ from) (others ++ to)) from to wanted outcome → PullGives (front ++ from) (others ++ to) wanted (fronted others outcome)
  pull_behind wanted outcome w =
      let common = common_names (front ++ from) (others ++ to) in
      let a = all_of common front (λ n c. common_within n (sym (agree_names front others agree n) ∙ (is_among_is (map name_of front) n).0 c)) in
      let b = all_of common others (λ n c. common_within n ((is_among_is (map name_of others) n).0 c)) in
      pull_front common front others a b agree from to wanted outcome w

module _ (from to : List Catch) (wanted : List (List ℕ)) (m : ℕ) (agree : Agree from to m) where
  behind_agreed : (outcome : Outcome) → PullBy (common_names from to) (drop m from) (drop m to) wanted outcome → PullGives from to wanted (fronted (take m to) outcome)
  behind_agreed outcome =
      rw (take-append-drop m from, take-append-drop m to) at (pull_behind (take m from) (take m to) (drop m from) (drop m to) agree.same wanted outcome)

  pub goes_behind : (taken : List Catch) → PullBy (common_names from to) (drop m from) (drop m to) wanted (Ok (drop m to ++ taken)) → PullGives from to wanted (Ok (to ++ taken))
  goes_behind taken w =
      let e : take m to ++ (drop m to ++ taken) ≡ to ++ taken = sym (append_assoc (take m to) (drop m to) taken) ∙ ap (λ l. l ++ taken) (take-append-drop m to) in
      subst (λ l. PullGives from to wanted (Ok l)) e (behind_agreed (Ok (drop m to ++ taken)) w)

  pub blocked_behind : (blocked : Blocked) → PullBy (common_names from to) (drop m from) (drop m to) wanted (Err blocked) → PullGives from to wanted (Err blocked)
  blocked_behind blocked w = behind_agreed (Err blocked) w

-- before the first catch
pub agree_none : (from to : List Catch) → Agree from to 0
agree_none from to = record { within = omega arith; within_too = omega arith; same = refl }

-- a list is in its own order
pub as_it_is : (list : List Catch) → Align (keys_of list) list list
as_it_is [] = refl
as_it_is (k ∷ list) = (k, list, list, inl (refl, refl, refl), as_it_is list, refl)

-- a branch agrees with itself
pub agree_itself : (list : List Catch) → Agree list list (length list)
agree_itself list =
    record { within = omega arith; within_too = omega arith; same = subst (λ l. Align (keys_of l) l l) (sym (take-length list)) (as_it_is list) }

-- prefixes of branches that agree still agree when the branches grow
pub agree_grown : (from to more other : List Catch) (n : ℕ) → Agree from to n → Agree (from ++ more) (to ++ other) n
agree_grown from to more other n w =
    record {
      within = omega (arith, length-append from more);
      within_too = omega (arith, length-append to other);
      same = subst (λ f. Align (keys_of (take n (to ++ other))) f (take n (to ++ other))) (sym (take-append-le n from more w.within)) (subst (λ t. Align (keys_of t) (take n from) t) (sym (take-append-le n to other w.within_too)) w.same);
    }

-- prefixes that agree, each followed by more catches that agree, agree as a whole
pub agree_more : (from to : List Catch) (n m : ℕ) → Agree from to n → n + m ≤ length from → n + m ≤ length to → Align (keys_of (take m (drop n to))) (take m (drop n from)) (take m (drop n to)) → Agree from to (n + m)
agree_more from to n m w long long_too same =
    let all = aligned_front (take n to) (take n from) (take m (drop n to)) (take m (drop n from)) (take m (drop n to)) w.same same in
    record {
      within = long;
      within_too = long_too;
      same = subst (λ f. Align (keys_of (take (n + m) to)) f (take (n + m) to)) (sym (two_parts from n m w.within)) (subst (λ t. Align (keys_of t) (take n from ++ take m (drop n from)) t) (sym (two_parts to n m w.within_too)) all);
    }
  where
    two_parts : (list : List Catch) (n m : ℕ) → n ≤ length list → take (n + m) list ≡ take n list ++ take m (drop n list)
    two_parts list n m fits =
        ap (take (n + m)) (sym (take-append-drop n list)) ∙ ap (λ k. take (k + m) (take n list ++ drop n list)) (sym (length-take-le n list fits)) ∙ take-append-add (take n list) (drop n list) m

-- the same of parts of both lists
pub agree_with : (from to to_common from_common : List Catch) (n m : ℕ) → Agree from to n → n + m ≤ length from → n + m ≤ length to → to_common ≡ slice_range from n (n + m) → from_common ≡ slice_range to n (n + m) → Align (keys_of from_common) to_common from_common → Agree from to (n + m)
agree_with from to to_common from_common n m w long long_too is is_too same =
    let e : n + m - n ≡ m = omega arith in
    let one = is ∙ ap (λ k. take k (drop n from)) e in
    let other = is_too ∙ ap (λ k. take k (drop n to)) e in
    agree_more from to n m w long long_too (subst (λ f. Align (keys_of (take m (drop n to))) f (take m (drop n to))) one (subst (λ t. Align (keys_of t) to_common t) other same))

pub split_has : (list : List Catch) (m : ℕ) (n : List ℕ) → has_patch list n ≡ (has_patch (take m list) n || has_patch (drop m list) n)
split_has list m n =
    ap (λ l. has_patch l n) (sym (take-append-drop m list)) ∙ has_split (take m list) (drop m list) n

-- the patches of a prefix that agrees are in the other branch too
pub agreed_has : (from to : List Catch) (m : ℕ) → Agree from to m → (n : List ℕ) → has_patch (take m from) n ≡ true → has_patch to n ≡ true
agreed_has from to m w n e =
    split_has to m n ∙ or_left (has_patch (take m to) n) (has_patch (drop m to) n) (sym (agree_names (take m from) (take m to) w.same n) ∙ e)
