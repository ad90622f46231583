-- The dependencies of a patch, found by a walk back from it over the inverted patches.
use Rattle.camp_questions.proofs.Words.{◌≡◌, ◌<◌, ◌≤◌, ℕ, zero, suc, ◌+◌, ◌-◌, Bool, true, false, not, ◌&&◌, ◌||◌, cond, List, [], ◌∷◌, ◌++◌, bytes_eq, map, length, take, drop, get_or, replicate, None, Some, refl, sym, ap, ◌∙◌, subst, inl, inr, arith, AllByRecursion, length-replicate, take-append-drop, Catch, ArrangesAfter, has_patch, is_among, name_of, all_append, name_itself, or_cases, or_none, or_true, among_others, other_names, among_once, DependsOnTakenOut, CanMoveToFront, CanBeTakenOut, AreAmong, IsPlain, NeedsThese, set, cases_lt, All-from_recursion, All-get_or, get_or-take, get_or-map, get_or-reverse, get_or-set_same, get_or_append_left, get_or_default, get_or_past, get_or_push, length-map, length-reverse, length-set, length_push, take_all, reverse, inverse_all, PatchCatches, AreApart, ArePatches, catches_in_order, names_in_order, Needed, AreKnown, AreMarkedBelow, AreReached, IsInverted, NeedEach, marked, is_marked, marked_in_both, needing, MoveBeforeAll, AreBlockedAfter, other_way, flat_map-append, append-nil, both_ways}
use Rattle.camp_questions.proofs.Growths.{alone_among}
use Rattle.camp_questions.proofs.GraphSteps.{AreNeeded, all_needed, none_needed, one_needed}
use Rattle.camp_questions.proofs.BranchGrowths.{needs_are_determined, needs_come_first, needs_are_least}
use Rattle.camp_questions.proofs.LeastHeld.{held_within}
use Rattle.camp_questions.proofs.MarkedNames.{among_both_marked, among_marked, apart_places, both_long, mark_in_both, one_marked, there}
use Rattle.camp_questions.proofs.PartsArranged.{left_apart}
use Rattle.camp_questions.proofs.PatchFronts.{all_are, all_before, all_behind, both_are, those_come}
use Rattle.camp_questions.proofs.PatchesBack.{reversed}
use Rattle.camp_questions.proofs.TakenBack.{come_back, go_back}
use Rattle.camp_questions.proofs.WalkedPatches.{AreThere, HeldAlike, IsWalked, all_there, can_go_then, held_here, one_more_done, own_at, patches_parted, there_of, walked_alike, walked_aside, walked_on}

-- the patches are taken from the last down to an index; those before the index are still to be visited
abbrev pub walked_from : List PatchCatches → ℕ → List Catch
walked_from patches place = catches_in_order (take (length patches - place) (reverse patches))

module _ (patches : List PatchCatches) (are : ArePatches patches) where
  abbrev all : List Catch
  all = catches_in_order (reverse patches)

  abbrev own : List (List ℕ)
  own = names_in_order patches

  module _ (place : ℕ) (p d : PatchCatches) (within : place < length patches) (is : p ≡ get_or patches place d) where
    -- counted from the end, it is at this index
    abbrev index : ℕ
    index = length patches - (place + 1)

    stands_within : index < length (reverse patches)
    stands_within = let long = length-reverse patches in omega (arith, long, within)

    stands : p ≡ get_or (reverse patches) index d
    stands =
        let turned = get_or-reverse patches index d (omega (arith, within)) in
        let e : length patches - 1 - index ≡ place = omega (arith, within) in
        is ∙ ap (λ k. get_or patches k d) (sym e) ∙ sym turned

    own_there : AreThere all p.name p.catches.items
    own_there = there_of (reverse patches) (reversed patches are) index p d stands_within stands

    more_done : walked_from patches place ≡ walked_from patches (place + 1) ++ p.catches.items
    more_done =
        let next : length patches - place ≡ index + 1 = omega (arith, within) in
        ap (λ k. catches_in_order (take k (reverse patches))) next ∙ one_more_done (reverse patches) index p d stands_within stands

    -- a fact about all catches holds of those of the patch
    pub catches_at : (P : Catch → Type 0) → AllByRecursion P all → AllByRecursion P p.catches.items
    catches_at P holds =
        let i = index in
        let done = catches_in_order (take i (reverse patches)) in
        let rest = catches_in_order (drop (i + 1) (reverse patches)) in
        all_before P p.catches.items rest (all_behind P done (p.catches.items ++ rest) (subst (AllByRecursion P) (patches_parted (reverse patches) i p d stands_within stands) holds))

    module _ (held : List (List ℕ)) (going : List Catch) (walked : IsWalked all held (walked_from patches (place + 1)) going) where
      -- the walk continues past a patch that is moved in front of those that go
      pub back_aside : (left : List Catch) → is_among held p.name ≡ false → MoveBeforeAll p.name going p.catches.items left → IsWalked all held (walked_from patches place) left
      back_aside left free come =
          subst (λ l. IsWalked all held l left) (sym more_done) (walked_aside all held (walked_from patches (place + 1)) going walked p.name p.catches.items own_there left free come)

      -- and past one that goes
      pub back_on : is_among held p.name ≡ true → IsWalked all held (walked_from patches place) (going ++ p.catches.items)
      back_on goes =
          subst (λ l. IsWalked all held l (going ++ p.catches.items)) (sym more_done) (walked_on all held (walked_from patches (place + 1)) going walked p.name p.catches.items own_there goes)

      -- a patch that can't be moved in front of those that go depends on them
      pub back_stuck : is_among held p.name ≡ false → AreBlockedAfter p.name going p.catches.items → DependsOnTakenOut all held p.name
      back_stuck free stuck =
          held_here all held (walked_from patches (place + 1)) going walked p.name p.catches.items own_there (catches_in_order (drop (index + 1) (reverse patches))) (patches_parted (reverse patches) index p d stands_within stands) free stuck

  -- the rest goes if all of it depends on them
  pub walked_down : (held : List (List ℕ)) (place : ℕ) (d : PatchCatches) (going : List Catch) → place ≤ length patches → IsWalked all held (walked_from patches place) going → ((r : ℕ) (n : List ℕ) → r < place → is_among held (get_or own r n) ≡ true) → (left : List Catch) × IsWalked all held (walked_from patches 0) left
  walked_down held zero d going within walked goes = (going, walked)
  walked_down held (suc place) d going within walked goes =
      let p = get_or patches place d in
      let inside : place < length patches = omega (arith, within) in
      let e : suc place ≡ place + 1 = omega arith in
      let here = subst (λ k. IsWalked all held (walked_from patches k) going) e walked in
      let named = get_or-map (λ (x : PatchCatches). x.name) patches place d d.name inside in
      let held_too = ap (is_among held) (sym named) ∙ goes place d.name (omega arith) in
      walked_down held place d (going ++ p.catches.items) (omega (arith, within)) (back_on place p d inside refl held going here held_too) (λ r n less. goes r n (omega (arith, less)))

  from_end : (n : ℕ) → length patches ≡ n → walked_from patches n ≡ []
  from_end n long =
      let none : length patches - n ≡ 0 = omega (arith, long) in
      ap (λ k. catches_in_order (take k (reverse patches))) none

  -- from index 0 on, all have been visited
  pub whole_walk : walked_from patches 0 ≡ all
  whole_walk =
      let long = length-reverse patches in
      let e : length patches - 0 ≡ length patches = omega arith in
      ap (λ k. catches_in_order (take k (reverse patches))) e ∙ ap catches_in_order (take_all (length patches) (reverse patches) (omega (arith, long)))

  -- a fact about the names from an index on holds of the catches that have been visited
  pub each_walked : (P : List ℕ → Type 0) (left place : ℕ) (d : PatchCatches) → place + left ≡ length patches → ((r : ℕ) (n : List ℕ) → place ≤ r → r < length patches → P (get_or own r n)) → AllByRecursion (λ k. P (name_of k)) (walked_from patches place)
  each_walked P zero place d whole holds =
      subst (AllByRecursion (λ k. P (name_of k))) (sym (from_end place (omega (arith, whole)))) tt
  each_walked P (suc left) place d whole holds =
      let p = get_or patches place d in
      let inside : place < length patches = omega (arith, whole) in
      let behind = each_walked P left (place + 1) d (omega (arith, whole)) (λ r n le less. holds r n (omega (arith, le)) less) in
      let named = get_or-map (λ (x : PatchCatches). x.name) patches place d d.name inside in
      let here = subst P named (holds place d.name (omega arith) inside) in
      let owned = own_at patches place p d inside refl are.own in
      subst (AllByRecursion (λ k. P (name_of k))) (sym (more_done place p d inside refl)) (all_append (λ k. P (name_of k)) (walked_from patches (place + 1)) p.catches.items behind (all_are (λ k is. subst P (sym is) here) p.catches.items owned))

  -- the catches that go so far are of other patches than the one at an index
  pub back_apart : (held : List (List ℕ)) (place : ℕ) (p d : PatchCatches) (going : List Catch) → place < length patches → p ≡ get_or patches place d → IsWalked all held (walked_from patches (place + 1)) going → AreApart p.name going
  back_apart held place p d going within is walked =
      let called : p.name ≡ get_or own place d.name = ap (λ (x : PatchCatches). x.name) is ∙ sym (get_or-map (λ (x : PatchCatches). x.name) patches place d d.name within) in
      let long : length own ≡ length patches = length-map patches (λ (x : PatchCatches). x.name) in
      let others : AreApart p.name (walked_from patches (place + 1)) = each_walked (λ n. bytes_eq n p.name ≡ false) (length patches - (place + 1)) (place + 1) d (omega (arith, within)) (λ r n le less.
      ap (bytes_eq (get_or own r n)) called ∙ other_way (get_or own place d.name) (get_or own r n) (ap (λ m. bytes_eq m (get_or own r n)) (get_or_default own place d.name n (omega (arith, within, long))) ∙ apart_places own place r n are.distinct (omega (arith, le)) (omega (arith, less, long)))) in
      left_apart p.name (other_names all held) (walked_from patches (place + 1)) walked.first going walked.arranged others

  -- they are catches of the list
  pub walked_there : (place : ℕ) → AllByRecursion (λ k. has_patch all (name_of k) ≡ true) (walked_from patches place)
  walked_there place =
      let i = length patches - place in
      let parts : all ≡ walked_from patches place ++ catches_in_order (drop i (reverse patches)) = ap catches_in_order (sym (take-append-drop i (reverse patches))) ∙ flat_map-append (λ (patch : PatchCatches). patch.catches.items) (take i (reverse patches)) (drop i (reverse patches)) in
      all_before (λ k. has_patch all (name_of k) ≡ true) (walked_from patches place) (catches_in_order (drop i (reverse patches))) (subst (AllByRecursion (λ k. has_patch all (name_of k) ≡ true)) parts (all_there all))

  -- if none of the patches after an index depends on those that go, all of them stay
  pub walked_free : (held : List (List ℕ)) (place : ℕ) → AllByRecursion (λ k. is_among held (name_of k) ≡ false) (walked_from patches place) → IsWalked all held (walked_from patches place) []
  walked_free held place free = record {
    first = walked_from patches place;
    arranged = subst (λ l. ArrangesAfter (other_names all held) [] l (walked_from patches place) []) (append-nil (walked_from patches place)) (those_come (other_names all held) (walked_from patches place) [] (both_are (λ k has lacks. among_others all held (name_of k) ∙ (λ i. has i && not (lacks i))) (walked_from patches place) (walked_there place) free) tt);
  }

-- the state of a walk back at an index: the marked patches go; each list that contains the first patch and can be
-- moved to the front contains the marked ones
pub record ReachesTo (branch : List Catch) (patches : List PatchCatches) (from : ℕ) (marks : List Bool) (place : ℕ) (going : List Catch) : Type 0 where
  pub long : length marks ≡ from + 1
  pub walked : IsWalked (catches_in_order (reverse patches)) (marked (names_in_order patches) marks) (walked_from patches place) going
  pub least :
      (others : List (List ℕ)) (n : List ℕ) → is_among others (get_or (names_in_order patches) from n) ≡ true →
      CanMoveToFront branch others → AreAmong (marked (names_in_order patches) marks) others
  pub itself : is_marked marks from ≡ true

-- a walk back from the first patch whose dependencies are not known yet
module _ (branch : List Catch) (patches : List PatchCatches) (inverted : IsInverted branch patches) (known : List Needed) (are : AreKnown branch (names_in_order patches) known) (inside : length known < length patches) where
  abbrev names : List (List ℕ)
  names = names_in_order patches

  abbrev back : List Catch
  back = catches_in_order (reverse patches)

  abbrev from : ℕ
  from = length known

  plain : IsPlain branch
  plain = record { patches = inverted.forth; are = inverted.plain; room = inverted.room }

  names_long : length names ≡ length patches
  names_long = length-map patches (λ (x : PatchCatches). x.name)

  -- the name of the patch at an index is marked if the index is
  called : (place : ℕ) (p d : PatchCatches) → place < length patches → p ≡ get_or patches place d → p.name ≡ get_or names place d.name
  called place p d within is =
      ap (λ (x : PatchCatches). x.name) is ∙ sym (get_or-map (λ (x : PatchCatches). x.name) patches place d d.name within)

  by_place : (marks : List Bool) (place : ℕ) (p d : PatchCatches) → place < length patches → p ≡ get_or patches place d → is_among (marked names marks) p.name ≡ is_marked marks place
  by_place marks place p d within is =
      ap (is_among (marked names marks)) (called place p d within is) ∙ among_marked names marks place d.name inverted.are.distinct (omega (arith, within, names_long))

  -- the dependencies of a patch are in each list that contains it and can be moved to the front
  needs_within : (p : List ℕ) (marks : List Bool) → NeedsThese branch (record { name = p; needs = marked names marks }) → (others : List (List ℕ)) → is_among others p ≡ true → CanMoveToFront branch others → AreAmong (marked names marks) others
  needs_within p marks these others has come x there =
      needs_are_least branch (p ∷ []) these.0 others plain these.1 (alone_among p others has) come x (sym (these.2 x) ∙ there)

  -- a step of the walk, to the index before
  module _ (marks : List Bool) (place last : ℕ) (next : last ≡ place + 1) (p : PatchCatches) (going : List Catch) (before : place < length known) (is : p ≡ get_or patches place p) (so_far : ReachesTo branch patches (length known) marks last going) where
    within : place < length patches
    within = omega (arith, before, inside)

    now : ReachesTo branch patches from marks (place + 1) going
    now = subst (λ k. ReachesTo branch patches from marks k going) next so_far

    -- a patch that is moved in front of those that go is skipped
    pub step_aside : (left : List Catch) → is_marked marks place ≡ false → MoveBeforeAll p.name going p.catches.items left → ReachesTo branch patches (length known) marks place left
    step_aside left free come = record {
      long = now.long;
      walked = back_aside patches inverted.are place p p within is (marked names marks) going now.walked left (by_place marks place p p within is ∙ free) come;
      least = now.least;
      itself = now.itself;
    }

    -- a marked patch goes
    pub step_on : is_marked marks place ≡ true → ReachesTo branch patches (length known) marks place (going ++ p.catches.items)
    step_on goes = record {
      long = now.long;
      walked = back_on patches inverted.are place p p within is (marked names marks) going now.walked (by_place marks place p p within is ∙ goes);
      least = now.least;
      itself = now.itself;
    }

    -- those that go are of other patches
    pub goes_apart_from : AreApart p.name going
    goes_apart_from = back_apart patches inverted.are (marked names marks) place p p going within is now.walked

    -- a blocked patch is in each list that contains the patch and can be moved to the front
    sticks_within : is_marked marks place ≡ false → AreBlockedAfter p.name going p.catches.items → (others : List (List ℕ)) (n : List ℕ) → is_among others (get_or names from n) ≡ true → CanMoveToFront branch others → is_among others p.name ≡ true
    sticks_within free stuck others n has come =
        let held = marked names marks in
        let plain_back : IsPlain back = record { patches = inverse_all inverted.forth; are = inverted.inverses; room = inverted.room_back } in
        let sticks = back_stuck patches inverted.are place p p within is held going now.walked (by_place marks place p p within is ∙ free) stuck in
        let can = subst (λ l. CanBeTakenOut l others) (sym inverted.inverses) (go_back inverted.forth others (subst (λ l. CanMoveToFront l others) inverted.plain come)) in
        held_within back others plain_back can held p.name (now.least others n has come) sticks

    -- it goes, and its dependencies are marked
    pub step_stuck : (q : Needed) → q ≡ get_or known place q → is_marked marks place ≡ false → AreBlockedAfter p.name going p.catches.items → ReachesTo branch patches (length known) (marked_in_both marks q.needs.items) place (going ++ p.catches.items)
    step_stuck q same free stuck =
        let row : List Bool = q.needs.items in
        let row_long : length row ≡ place + 1 = ap (λ (x : Needed). length x.needs.items) same ∙ are.long place q before in
        let fits : length row ≤ length marks = let long = now.long in omega (arith, row_long, long, before) in
        let own_place = called place p p within is in
        let of_row : q.name ≡ p.name = ap (λ (x : Needed). x.name) same ∙ are.named place q p.name before ∙ sym own_place in
        let these : NeedsThese branch (record { name = p.name; needs = marked names row }) = subst (λ n. NeedsThese branch (record { name = n; needs = marked names row })) of_row (subst (λ (x : Needed). NeedsThese branch (needing names x)) (sym same) (are.needs place q before)) in
        let held = marked names marks in
        let more = marked names (marked_in_both marks row) in
        let both : (x : List ℕ) → is_among more x ≡ (is_among held x || is_among (marked names row) x) = λ x. among_both_marked names marks row x fits in
        let has : is_among (map name_of branch) p.name ≡ true = sym (among_once (map name_of branch) p.name) ∙ ap (λ l. is_among l p.name) (sym inverted.names) ∙ ap (is_among names) own_place ∙ there names place p.name (omega (arith, within, names_long)) in
        let needed = needs_come_first branch (p.name ∷ []) these.0 (ap (λ b. cond b None (Some p.name)) has) these.1 in
        let own_mark : is_among (marked names row) p.name ≡ true = these.2 p.name ∙ needed.1.has p.name (ap (λ b. b || false) (name_itself p.name)) in
        let alike : HeldAlike back held more (walked_from patches (place + 1)) = both_are (λ k there same. (there, same)) (walked_from patches (place + 1)) (walked_there patches inverted.are (place + 1)) (each_walked patches inverted.are (λ n. is_among more n ≡ is_among held n) (length patches - (place + 1)) (place + 1) p (omega (arith, within)) (λ r n le less.
        both (get_or names r n) ∙ ap (λ b. is_among held (get_or names r n) || b) (among_marked names row r n inverted.are.distinct (omega (arith, less, names_long)) ∙ get_or_past row r false (omega (arith, row_long, le))) ∙ or_none (is_among held (get_or names r n)))) in
        let walked = walked_alike back held more (walked_from patches (place + 1)) going alike now.walked in
        record {
          long = both_long marks row ∙ now.long;
          walked = back_on patches inverted.are place p p within is more going walked (both p.name ∙ ap (λ b. is_among held p.name || b) own_mark ∙ or_true (is_among held p.name) true refl);
          least = λ others n among come x there.
              let sticks = sticks_within free stuck others n among come in
              elim (or_cases (is_among held x) (is_among (marked names row) x) (sym (both x) ∙ there)) [
                | inl e ↦ now.least others n among come x e
                | inr e ↦ needs_within p.name row these others sticks come x e
              ];
          itself = mark_in_both marks row from fits ∙ ap (λ b. b || is_marked row from) now.itself;
        }

  -- if all indexes before are marked, the walk is done
  pub step_last : (marks : List Bool) (place below : ℕ) (d : PatchCatches) (going : List Catch) → place ≤ length known → place ≤ below → AreMarkedBelow marks below → ReachesTo branch patches (length known) marks place going → AreReached branch (names_in_order patches) (length known) marks
  step_last marks place below d going before all_below marked_there so_far = record {
    long = so_far.long;
    needs = λ n.
        let held = marked names marks in
        let name = get_or names from n in
        let down = walked_down patches inverted.are held place d going (omega (arith, before, inside)) so_far.walked (λ r m less. among_marked names marks r m inverted.are.distinct (omega (arith, less, before, inside, names_long)) ∙ marked_there r (omega (arith, less, all_below))) in
        let can = can_go_then back held (walked_from patches 0) down.0 down.1 (whole_walk patches inverted.are) in
        let come : CanMoveToFront branch held = subst (λ l. CanMoveToFront l held) (sym inverted.plain) (come_back inverted.forth held (subst (λ l. CanBeTakenOut l held) inverted.inverses can)) in
        let own_mark : is_among held name ≡ true = among_marked names marks from n inverted.are.distinct (omega (arith, inside, names_long)) ∙ so_far.itself in
        let needed = needs_are_determined branch (name ∷ []) in
        let has : is_among (map name_of branch) name ≡ true = sym (among_once (map name_of branch) name) ∙ ap (λ l. is_among l name) (sym inverted.names) ∙ there names from n (omega (arith, inside, names_long)) in
        let came = needs_come_first branch (name ∷ []) needed.0 (ap (λ b. cond b None (Some name)) has) needed.1 in
        let first : AreAmong held needed.0 = so_far.least needed.0 n (came.1.has name (ap (λ b. b || false) (name_itself name))) came.0 in
        let second : AreAmong needed.0 held = needs_are_least branch (name ∷ []) needed.0 held plain needed.1 (alone_among name held own_mark) come in
        (needed.0, needed.1, λ x. both_ways (is_among held x) (is_among needed.0 x) (first x) (second x));
  }

  -- at first only the patch itself is marked and goes
  pub step_first : (marks : List Bool) (p : PatchCatches) (going : List Catch) → p ≡ get_or patches (length known) p → marks ≡ set (replicate (length known + 1) false) (length known) true → going ≡ p.catches.items → ReachesTo branch patches (length known) marks (length known) going
  step_first marks p going is first goes =
      let long : length marks ≡ from + 1 = ap length first ∙ length-set (replicate (from + 1) false) from true ∙ length-replicate (from + 1) false in
      let held = marked names marks in
      let mine : is_marked marks from ≡ true = ap (λ l. get_or l from false) first ∙ get_or-set_same (replicate (from + 1) false) from true false (let r = length-replicate (from + 1) false in omega (arith, r)) in
      let alone : held ≡ p.name ∷ [] = ap (marked names) first ∙ one_marked names from p.name (omega (arith, inside, names_long)) ∙ ap (λ x. x ∷ []) (sym (called from p p inside is)) in
      let free = each_walked patches inverted.are (λ n. is_among held n ≡ false) (length patches - (from + 1)) (from + 1) p (omega (arith, inside)) (λ r n le less.
      among_marked names marks r n inverted.are.distinct (omega (arith, less, names_long)) ∙ get_or_past marks r false (omega (arith, long, le))) in
      let start = walked_free patches inverted.are held (from + 1) free in
      let on = back_on patches inverted.are from p p inside is held [] start (by_place marks from p p inside is ∙ mine) in
      record {
        long = long;
        walked = subst (λ l. IsWalked back held (walked_from patches from) l) (sym goes) on;
        least = λ others n has come x there.
            let same : get_or names from n ≡ p.name = get_or_default names from n p.name (omega (arith, inside, names_long)) ∙ sym (called from p p inside is) in
            alone_among p.name others (ap (is_among others) (sym same) ∙ has) x (ap (λ l. is_among l x) (sym alone) ∙ there);
        itself = mine;
      }

-- the dependencies of the first patches are known
pub record AreKnownSoFar (branch : List Catch) (names : List (List ℕ)) (count : ℕ) (all : List Needed) : Type 0 where
  pub known : AreKnown branch names all
  pub needed : AreNeeded branch names (take count names) all

pub none_known : (branch : List Catch) (names : List (List ℕ)) (all : List Needed) → all ≡ [] → AreKnownSoFar branch names 0 all
none_known branch names all none = rw none (record {
  known = record { named = λ k d n within. absurd (omega (arith, within)); needs = λ k d within. absurd (omega (arith, within)); long = λ k d within. absurd (omega (arith, within)) };
  needed = none_needed branch names [] refl;
})

-- one more
pub one_known : (branch : List Catch) (names : List (List ℕ)) (count : ℕ) (all next : List Needed) (one : Needed) → length all ≡ count → count < length names → AreKnownSoFar branch names count all → one.name ≡ get_or names count one.name → AreReached branch names count one.needs.items → next ≡ all ++ one ∷ [] → AreKnownSoFar branch names (count + 1) next
one_known branch names count all next one long within so_far called reached becomes =
    let many : length next ≡ count + 1 = ap length becomes ∙ length_push all one ∙ ap (λ n. n + 1) long in
    let needs : NeedsThese branch (needing names one) = subst (λ n. NeedsThese branch (record { name = n; needs = marked names one.needs.items })) (sym called) (reached.needs one.name) in
    let needed = one_needed branch names names count one.name one.name all next one within called so_far.needed needs refl becomes in
    let P : Needed → Type 0 = λ patch. NeedsThese branch (needing names patch) in
    record {
      known = record {
        named = λ k d n less. sym (get_or-map (λ (p : Needed). p.name) next k d d.name less) ∙ ap (λ l. get_or l k d.name) needed.names_are ∙ get_or-take (count + 1) names k d.name (omega (arith, less, many)) ∙ get_or_default names k d.name n (omega (arith, less, many, within));
        needs = λ k d less. All-get_or P next k d less (All-from_recursion P next needed.needs);
        long = λ k d less. elim (cases_lt k count) [
          | inl w ↦ ap (λ l. length (get_or l k d).needs.items) becomes ∙ ap (λ (p : Needed). length p.needs.items) (get_or_append_left all (one ∷ []) d k (omega (arith, w, long))) ∙ so_far.known.long k d (omega (arith, w, long))
          | inr w ↦
              let last : k ≡ count = omega (arith, w, less, many) in
              ap (λ l. length (get_or l k d).needs.items) becomes ∙ ap (λ (p : Needed). length p.needs.items) (get_or_push all one d k (long ∙ sym last)) ∙ reached.long ∙ ap (λ m. m + 1) (sym last)
        ];
      };
      needed = needed;
    }

pub all_known : (branch : List Catch) (names : List (List ℕ)) (count : ℕ) (all : List Needed) → length names ≤ count → AreKnownSoFar branch names count all → NeedEach branch names all
all_known branch names count all past so_far =
    all_needed branch names (take count names) all (take_all count names past) so_far.needed
