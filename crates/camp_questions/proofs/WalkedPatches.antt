-- One pass over patches: the dependents go, and the others are moved in front of them.
use Rattle.camp_questions.proofs.Words.{or_none, ◌≡◌, ℕ, true, false, not, ◌&&◌, ◌||◌, List, [], ◌∷◌, ◌++◌, map, Err, bytes_eq, get_or, length, take, drop, take_more, arith, zero, suc, ◌+◌, ◌<◌, ◌≤◌, refl, sym, ap, ◌∙◌, subst, inl, inr, insert, keys, Catch, ArrangesAfter, IsBlockedAfter, AllByRecursion, has_patch, is_among, name_of, all_append, name_itself, or_parts, or_true, among_others, other_names, DependsOnTakenOut, CanBeTakenOut, ObliterateGives, take_all, All-from_recursion, All-get_or, Names, PatchCatches, AreApart, AreOfPatch, ArePatches, catches_in_order, names_in_order, GrowsToTakeOut, MoveBeforeAll, AreBlockedAfter, take-append-drop, flat_map-append, drop_more, Depends}
use Rattle.camp_questions.proofs.PatchesBack.{catches-append}
use Rattle.camp_questions.proofs.BranchGrowths.{to_go}
use Rattle.camp_questions.proofs.Growing.{IsGrownSoFar, all_grown, none_grown, one_grown, one_more}
use Rattle.camp_questions.proofs.PartsArranged.{AgreeOn, arranged_alike, arranged_further, left_apart, sticks_alike, sticks_further, still_sticks, stuck_name}
use Rattle.camp_questions.proofs.PatchFronts.{AreNotOf, all_are, all_before, all_behind, at_first, both_are, others_stay}

module _ (all : List Catch) where
  -- the patches up to here have been visited: those that stay are in front, and those that go after them
  pub record IsWalked (held : List (List ℕ)) (done going : List Catch) : Type 0 where
    pub first : List Catch
    pub arranged : ArrangesAfter (other_names all held) [] done first going

  -- the catches of a patch of the branch
  abbrev pub AreThere : List ℕ → List Catch → Type 0
  AreThere name list = AllByRecursion (λ k. (name_of k ≡ name) × (has_patch all (name_of k) ≡ true)) list

  stays_if : (held : List (List ℕ)) (k : Catch) → has_patch all (name_of k) ≡ true → is_among (other_names all held) (name_of k) ≡ not (is_among held (name_of k))
  stays_if held k has =
      among_others all held (name_of k) ∙ ap (λ b. b && not (is_among held (name_of k))) has

  -- a patch that is no dependent has its catches among those that stay
  agree : (held : List (List ℕ)) (name : List ℕ) (list : List Catch) → is_among held name ≡ false → AreThere name list → AgreeOn (name ∷ []) (other_names all held) list
  agree held name list free are =
      all_are (λ k there. at_first name [] (name_of k) there.0 ∙ sym (stays_if held k there.1 ∙ ap not (ap (is_among held) there.0 ∙ free))) list are

  others : (held : List (List ℕ)) (name : List ℕ) (list : List Catch) → is_among held name ≡ true → AreThere name list → AreNotOf (other_names all held) list
  others held name list goes are =
      all_are (λ k there. stays_if held k there.1 ∙ ap not (ap (is_among held) there.0 ∙ goes)) list are

  own : (name : List ℕ) (list : List Catch) → AreThere name list → AreOfPatch name list
  own name list are = all_are (λ k there. there.0) list are

  module _ (held : List (List ℕ)) (done going : List Catch) (walked : IsWalked held done going) (name : List ℕ) (list : List Catch) (are : AreThere name list) where
    -- a patch is moved in front of those that go
    pub walked_aside : (left : List Catch) → is_among held name ≡ false → MoveBeforeAll name going list left → IsWalked held (done ++ list) left
    walked_aside left free come = record {
      first = walked.first ++ come.0;
      arranged = arranged_further (other_names all held) [] done list walked.first going come.0 left walked.arranged (arranged_alike (name ∷ []) (other_names all held) going list come.0 left (agree held name list free are) come.1);
    }

    -- a dependent goes
    pub walked_on : is_among held name ≡ true → IsWalked held (done ++ list) (going ++ list)
    walked_on goes = record {
      first = walked.first ++ [];
      arranged = arranged_further (other_names all held) [] done list walked.first going [] (going ++ list) walked.arranged (others_stay (other_names all held) going list (others held name list goes are));
    }

    -- a patch that can't be moved in front of those that go is a dependent
    pub held_here : (rest : List Catch) → all ≡ done ++ (list ++ rest) → is_among held name ≡ false → AreBlockedAfter name going list → DependsOnTakenOut all held name
    held_here rest parts free stuck =
        let alike = sticks_alike (name ∷ []) (other_names all held) going list stuck.0 stuck.1 (agree held name list free are) stuck.2 in
        let whole = sticks_further (other_names all held) [] done (list ++ rest) walked.first going stuck.0 stuck.1 walked.arranged (still_sticks (other_names all held) going list rest stuck.0 stuck.1 alike) in
        let called = stuck_name name going list stuck.0 stuck.1 (own name list are) stuck.2 in
        let sticks = subst (λ l. IsBlockedAfter (other_names all held) [] l stuck.0 stuck.1) (sym parts) whole in
        (stuck.1.name, subst (λ n. ObliterateGives all held (Err (Depends n stuck.1.name))) called (inr (stuck.0, stuck.1, sticks, refl)))

  -- two sets of names are such that each catch is of a name in both, or in none
  abbrev pub HeldAlike : List (List ℕ) → List (List ℕ) → List Catch → Type 0
  HeldAlike held next list =
      AllByRecursion (λ k. (has_patch all (name_of k) ≡ true) × (is_among next (name_of k) ≡ is_among held (name_of k))) list

  -- names that none of the patches up to here have do not change how these are arranged
  pub walked_alike : (held next : List (List ℕ)) (done going : List Catch) → HeldAlike held next done → IsWalked held done going → IsWalked next done going
  walked_alike held next done going alike walked = record {
    first = walked.first;
    arranged = arranged_alike (other_names all held) (other_names all next) [] done walked.first going (all_are (λ k same. stays_if held k same.0 ∙ ap not (sym same.1) ∙ sym (stays_if next k same.0)) done alike) walked.arranged;
  }

  -- at the end all others are in front
  pub can_go_then : (held : List (List ℕ)) (done going : List Catch) → IsWalked held done going → done ≡ all → CanBeTakenOut all held
  can_go_then held done going walked whole =
      (walked.first, inl (walked.first, going, subst (λ l. ArrangesAfter (other_names all held) [] l walked.first going) whole walked.arranged, refl))

  -- the names inserted so far, and the patches up to here have been visited
  pub record IsGrown (names held : List (List ℕ)) (done going : List Catch) : Type 0 where
    pub walked : IsWalked held done going
    pub grown : IsGrownSoFar (CanBeTakenOut all) (DependsOnTakenOut all) names held

  pub none_held : (names : List (List ℕ)) → IsGrown names names [] []
  none_held names = record {
    walked = record { first = []; arranged = (refl, refl) };
    grown = none_grown (map name_of all) (CanBeTakenOut all) (DependsOnTakenOut all) (to_go all) names;
  }

  -- a patch that can't be moved in front of those that go is added to them, and its name is inserted
  pub one_held : (names : List (List ℕ)) (set next : Names) (done going list rest : List Catch) (name : List ℕ) → IsGrown names (keys set) done going → AreThere name list → all ≡ done ++ (list ++ rest) → AllByRecursion (λ k. (has_patch all (name_of k) ≡ true) × (bytes_eq (name_of k) name ≡ false)) done → is_among (keys set) name ≡ false → AreBlockedAfter name going list → next ≡ insert set name tt → IsGrown names (keys next) (done ++ list) (going ++ list)
  one_held names set next done going list rest name so_far are parts apart free stuck becomes =
      let held = keys set in
      let more : (n : List ℕ) → is_among (keys next) n ≡ (is_among held n || bytes_eq n name) = λ n. one_more set next name n becomes in
      let alike : HeldAlike held (keys next) done = all_are (λ k other. (other.0, more (name_of k) ∙ ap (λ b. is_among held (name_of k) || b) other.1 ∙ or_none (is_among held (name_of k)))) done apart in
      let now = walked_alike held (keys next) done going alike so_far.walked in
      record {
        walked = walked_on (keys next) done going now name list are (more name ∙ or_true (is_among held name) (bytes_eq name name) (name_itself name));
        grown = one_grown (map name_of all) (CanBeTakenOut all) (DependsOnTakenOut all) (to_go all) names set next name so_far.grown (held_here held done going so_far.walked name list are rest parts free stuck) becomes;
      }

  pub all_held : (names held : List (List ℕ)) (done going : List Catch) → IsGrown names held done going → done ≡ all → GrowsToTakeOut all names held
  all_held names held done going so_far whole =
      all_grown (map name_of all) (CanBeTakenOut all) (DependsOnTakenOut all) (to_go all) names held so_far.grown (can_go_then held done going so_far.walked whole)

-- a branch has the patches of its catches
pub all_there : (list : List Catch) → AllByRecursion (λ k. has_patch list (name_of k) ≡ true) list
all_there [] = tt
all_there (k ∷ list) =
    (at_first (name_of k) (map name_of list) (name_of k) refl, all_are (λ j there. or_true (bytes_eq (name_of j) (name_of k)) (has_patch list (name_of j)) there) list (all_there list))

-- the patches before one, that one, and those after it
pub patches_parted : (patches : List PatchCatches) (i : ℕ) (p d : PatchCatches) → i < length patches → p ≡ get_or patches i d → catches_in_order patches ≡ catches_in_order (take i patches) ++ (p.catches.items ++ catches_in_order (drop (i + 1) patches))
patches_parted patches i p d within is =
    ap catches_in_order (sym (take-append-drop i patches)) ∙ flat_map-append (λ (patch : PatchCatches). patch.catches.items) (take i patches) (drop i patches) ∙ ap (λ l. catches_in_order (take i patches) ++ catches_in_order l) (drop_more patches i d within ∙ ap (λ x. x ∷ drop (i + 1) patches) (sym is))

pub one_more_done : (patches : List PatchCatches) (i : ℕ) (p d : PatchCatches) → i < length patches → p ≡ get_or patches i d → catches_in_order (take (i + 1) patches) ≡ catches_in_order (take i patches) ++ p.catches.items
one_more_done patches i p d within is =
    ap catches_in_order (take_more patches i d within ∙ ap (λ x. take i patches ++ x ∷ []) (sym is)) ∙ catches-append (take i patches) p

pub own_at : (patches : List PatchCatches) (i : ℕ) (p d : PatchCatches) → i < length patches → p ≡ get_or patches i d → AllByRecursion (λ (patch : PatchCatches). AreOfPatch patch.name patch.catches.items) patches → AreOfPatch p.name p.catches.items
own_at patches i p d within is own =
    let P : PatchCatches → Type 0 = λ patch. AreOfPatch patch.name patch.catches.items in
    subst P (sym is) (All-get_or P patches i d within (All-from_recursion P patches own))

not_one : (patches : List PatchCatches) (i : ℕ) (p d : PatchCatches) (name : List ℕ) → i < length patches → p ≡ get_or patches i d → is_among (names_in_order patches) name ≡ false → bytes_eq name p.name ≡ false
not_one [] i p d name within is lacks = absurd (omega (arith, within))
not_one (q ∷ patches) zero p d name within is lacks =
    ap (λ (x : PatchCatches). bytes_eq name x.name) is ∙ (or_parts (bytes_eq name q.name) (is_among (names_in_order patches) name) lacks).0
not_one (q ∷ patches) (suc i) p d name within is lacks =
    not_one patches i p d name (omega (arith, within)) is (or_parts (bytes_eq name q.name) (is_among (names_in_order patches) name) lacks).1

-- the patches before it have other names
pub apart_before : (patches : List PatchCatches) (i : ℕ) (p d : PatchCatches) → i < length patches → p ≡ get_or patches i d → ArePatches patches → AreApart p.name (catches_in_order (take i patches))
apart_before [] i p d within is are = absurd (omega (arith, within))
apart_before (q ∷ patches) zero p d within is are = tt
apart_before (q ∷ patches) (suc i) p d within is are =
    let own = all_are (λ k called. ap (λ n. bytes_eq n p.name) called ∙ not_one patches i p d q.name (omega (arith, within)) is are.distinct.0) q.catches.items are.own.0 in
    all_append (λ k. bytes_eq (name_of k) p.name ≡ false) q.catches.items (catches_in_order (take i patches)) own (apart_before patches i p d (omega (arith, within)) is (record { own = are.own.1; distinct = are.distinct.1 }))

module _ (patches : List PatchCatches) (are : ArePatches patches) (i : ℕ) (p d : PatchCatches) (within : i < length patches) (is : p ≡ get_or patches i d) where
  abbrev whole : List Catch
  whole = catches_in_order patches

  abbrev done : List Catch
  done = catches_in_order (take i patches)

  pub own_of : AreOfPatch p.name p.catches.items
  own_of = own_at patches i p d within is are.own

  -- its catches are of a patch of the list
  pub there_of : AreThere whole p.name p.catches.items
  there_of =
      let rest = p.catches.items ++ catches_in_order (drop (i + 1) patches) in
      let all = subst (AllByRecursion (λ k. has_patch whole (name_of k) ≡ true)) (patches_parted patches i p d within is) (all_there whole) in
      both_are (λ k of there. (of, there)) p.catches.items own_of (all_before (λ k. has_patch whole (name_of k) ≡ true) p.catches.items (catches_in_order (drop (i + 1) patches)) (all_behind (λ k. has_patch whole (name_of k) ≡ true) done rest all))

  done_there : AllByRecursion (λ k. has_patch whole (name_of k) ≡ true) done
  done_there =
      let rest = p.catches.items ++ catches_in_order (drop (i + 1) patches) in
      all_before (λ k. has_patch whole (name_of k) ≡ true) done rest (subst (AllByRecursion (λ k. has_patch whole (name_of k) ≡ true)) (patches_parted patches i p d within is) (all_there whole))

  -- one more patch of several is visited
  module _ (names : List (List ℕ)) (set : Names) (going : List Catch) (so_far : IsGrown whole names (keys set) done going) where
    -- those that go so far are of other patches
    pub goes_apart : AreApart p.name going
    goes_apart =
        left_apart p.name (other_names whole (keys set)) done so_far.walked.first going so_far.walked.arranged (apart_before patches i p d within is are)

    pub past_aside : (left : List Catch) → is_among (keys set) p.name ≡ false → MoveBeforeAll p.name going p.catches.items left → IsGrown whole names (keys set) (catches_in_order (take (i + 1) patches)) left
    past_aside left free come = record {
      walked = subst (λ l. IsWalked whole (keys set) l left) (sym (one_more_done patches i p d within is)) (walked_aside whole (keys set) done going so_far.walked p.name p.catches.items there_of left free come);
      grown = so_far.grown;
    }

    pub past_held : is_among (keys set) p.name ≡ true → IsGrown whole names (keys set) (catches_in_order (take (i + 1) patches)) (going ++ p.catches.items)
    past_held goes = record {
      walked = subst (λ l. IsWalked whole (keys set) l (going ++ p.catches.items)) (sym (one_more_done patches i p d within is)) (walked_on whole (keys set) done going so_far.walked p.name p.catches.items there_of goes);
      grown = so_far.grown;
    }

    pub past_stuck : (next : Names) → is_among (keys set) p.name ≡ false → AreBlockedAfter p.name going p.catches.items → next ≡ insert set p.name tt → IsGrown whole names (keys next) (catches_in_order (take (i + 1) patches)) (going ++ p.catches.items)
    past_stuck next free stuck becomes =
        let apart = both_are (λ k has other. (has, other)) done done_there (apart_before patches i p d within is are) in
        subst (λ l. IsGrown whole names (keys next) l (going ++ p.catches.items)) (sym (one_more_done patches i p d within is)) (one_held whole names set next done going p.catches.items (catches_in_order (drop (i + 1) patches)) p.name so_far there_of (patches_parted patches i p d within is) apart free stuck becomes)

-- all patches have been visited
pub past_all : (patches : List PatchCatches) (i : ℕ) (names held : List (List ℕ)) (going : List Catch) → length patches ≤ i → IsGrown (catches_in_order patches) names held (catches_in_order (take i patches)) going → GrowsToTakeOut (catches_in_order patches) names held
past_all patches i names held going past so_far =
    all_held (catches_in_order patches) names held (catches_in_order (take i patches)) going so_far (ap catches_in_order (take_all i patches past))
