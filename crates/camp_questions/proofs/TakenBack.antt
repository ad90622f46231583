-- The dependencies of plain patches are their dependents in the inverted list.
use Rattle.camp_questions.proofs.Words.{◌≡◌, ℕ, Bool, true, false, true≢false, ◌||◌, List, [], ◌∷◌, ◌++◌, map, bytes_eq, refl, sym, ap, ◌∙◌, subst, AllByRecursion, map-append, list_any-append, Arrange, Catch, has_patch, is_among, name_of, is_among_is, or_true, Named, other_names, DependsOnTakenOut, CanBeTakenOut, CanMoveToFront, AreBlockedBy, AreAmong, IsPlain, inverse_of, inverse_all-cons, inverse_all-inverse_all, inverse_all, Plain, GrowsToFront, GrowsToTakeOut, not, ◌&&◌, among_others, or_comm, or_none, true_from_ne_false, HasRoom, both_ways}
use Rattle.camp_questions.proofs.PlainGoing.{IsEither, comes_taken_back}
use Rattle.camp_questions.proofs.BranchGrowths.{to_front, to_go, stops_within}
use Rattle.camp_questions.proofs.Growths.{all_done, all_within, among_first, are_added}
use Rattle.camp_questions.proofs.LeastHeld.{can_go, held_within, others_come}
use Rattle.camp_questions.proofs.PatchFronts.{all_are, at_first}

-- plain primitives are of patches of the branch
abbrev AreOwn : List Catch → List Named → Type 0
AreOwn branch list = AllByRecursion (λ (p : Named). has_patch branch p.name ≡ true) list

own_primitives : (list : List Named) → AreOwn (map Plain list) list
own_primitives [] = tt
own_primitives (p ∷ list) =
    (at_first p.name (map name_of (map Plain list)) p.name refl, all_are (λ q there. or_true (bytes_eq q.name p.name) (has_patch (map Plain list) q.name) there) list (own_primitives list))

-- a list and the inverted list are of the same patches
same_names : (list : List Named) (n : List ℕ) → has_patch (map Plain list) n ≡ has_patch (map Plain (inverse_all list)) n
same_names [] n = refl
same_names (p ∷ list) n =
    let called : List Named → List (List ℕ) = λ l. map name_of (map Plain l) in
    ap (λ b. bytes_eq n p.name || b) (same_names list n) ∙ or_comm (bytes_eq n p.name) (has_patch (map Plain (inverse_all list)) n) ∙ ap (λ b. has_patch (map Plain (inverse_all list)) n || b) (sym (or_none (bytes_eq n p.name))) ∙ sym (list_any-append (bytes_eq n) (called (inverse_all list)) (p.name ∷ [])) ∙ ap (λ l. is_among l n) (sym (ap (map name_of) (map-append Plain (inverse_all list) (inverse_of p ∷ [])) ∙ map-append name_of (map Plain (inverse_all list)) (Plain (inverse_of p) ∷ []))) ∙ ap (λ l. is_among (called l) n) (sym (inverse_all-cons p list))

-- a patch that is among names exactly if it is not among others
parted : (names others : List (List ℕ)) (p : Named) → is_among others p.name ≡ not (is_among names p.name) → IsEither names others p
parted names others p opposite = record {
  not_both = λ c d. true≢false (sym ((is_among_is others p.name).0 d) ∙ opposite ∙ ap not ((is_among_is names p.name).0 c));
  one = λ never. (is_among_is names p.name).1 (true_from_ne_false (is_among names p.name) (λ e. never ((is_among_is others p.name).1 (opposite ∙ ap not e))));
}

twice : (b : Bool) → b ≡ not (not b)
twice true = refl
twice false = refl

module _ (branch : List Catch) (names : List (List ℕ)) where
  stays_if : (p : Named) → has_patch branch p.name ≡ true → is_among (other_names branch names) p.name ≡ not (is_among names p.name)
  stays_if p has = among_others branch names p.name ∙ ap (λ b. b && not (is_among names p.name)) has

  -- a patch of a branch goes or stays
  goes_or_stays : (p : Named) → has_patch branch p.name ≡ true → IsEither names (other_names branch names) p
  goes_or_stays p has = parted names (other_names branch names) p (stays_if p has)

  stays_or_goes : (p : Named) → has_patch branch p.name ≡ true → IsEither (other_names branch names) names p
  stays_or_goes p has =
      parted (other_names branch names) names p (twice (is_among names p.name) ∙ ap not (sym (stays_if p has)))

-- names can be taken out of the inverted list exactly if they can be moved to the front of the list
pub come_back : (forth : List Named) (names : List (List ℕ)) → CanBeTakenOut (map Plain (inverse_all forth)) names → CanMoveToFront (map Plain forth) names
come_back forth names can =
    let back : List Catch = map Plain (inverse_all forth) in
    let come = others_come back names can in
    let taken = comes_taken_back names (other_names back names) (inverse_all forth) (all_are (goes_or_stays back names) (inverse_all forth) (own_primitives (inverse_all forth))) come.0 come.1 come.2 in
    (taken.0, taken.1, subst (λ l. Arrange names (map Plain l) taken.0 taken.1) (inverse_all-inverse_all forth) taken.2)

pub go_back : (forth : List Named) (names : List (List ℕ)) → CanMoveToFront (map Plain forth) names → CanBeTakenOut (map Plain (inverse_all forth)) names
go_back forth names come =
    let back : List Catch = map Plain (inverse_all forth) in
    let own = all_are (λ p has. sym (same_names forth p.name) ∙ has) forth (own_primitives forth) in
    can_go back names (comes_taken_back (other_names back names) names forth (all_are (stays_or_goes back names) forth own) come.0 come.1 come.2)

-- the dependents of names in the inverted list are their dependencies in the list
pub needed_as_held : (forth : List Named) (names grown : List (List ℕ)) → HasRoom forth → HasRoom (inverse_all forth) → GrowsToTakeOut (map Plain (inverse_all forth)) names grown → GrowsToFront (map Plain forth) names grown
needed_as_held forth names grown room room_back grows =
    let branch : List Catch = map Plain forth in
    let back : List Catch = map Plain (inverse_all forth) in
    let all = names ++ grows.0 in
    let come = come_back forth all (all_done (map name_of back) (CanBeTakenOut back) (DependsOnTakenOut back) (to_go back) names grows.0 grows.1) in
    let more = are_added (map name_of branch) (CanMoveToFront branch) (AreBlockedBy branch) (to_front branch) names in
    let needed = names ++ more.0 in
    let can = go_back forth needed (all_done (map name_of branch) (CanMoveToFront branch) (AreBlockedBy branch) (to_front branch) names more.0 more.1) in
    let plain : IsPlain branch = record { patches = forth; are = refl; room = room } in
    let plain_back : IsPlain back = record { patches = inverse_all forth; are = refl; room = room_back } in
    let within : AreAmong all needed = all_within (CanBeTakenOut back) (DependsOnTakenOut back) needed (held_within back needed plain_back can) names grows.0 (among_first names more.0) grows.1 in
    let within_all : AreAmong needed all = all_within (CanMoveToFront branch) (AreBlockedBy branch) all (stops_within branch all plain come) names more.0 (among_first names grows.0) more.1 in
    (more.0, more.1, λ n. grows.2 n ∙ both_ways (is_among all n) (is_among needed n) (within n) (within_all n))
