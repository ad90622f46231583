-- The graph of a branch, patch by patch.
use Rattle.camp_questions.proofs.Words.{◌≡◌, ◌<◌, ℕ, ◌+◌, Bool, cond, List, [], ◌∷◌, ◌++◌, map, filter, length, take, get_or, refl, sym, ap, ◌∙◌, subst, AllByRecursion, Catch, is_among, name_of, names_of, AreConflicts, all_append, CanMoveToFront, Drawn, IsGraph, Needing, NeedsThese, AreBlockedBy, node_of, Node, in_order, map-append, take_more, conflicts_are_determined, Needed, NeedEach, marked, needing, GrowsToFront, node_in, AreAlike, map-map, map-id}
use Rattle.camp_questions.proofs.BranchGrowths.{needs_are_determined, to_front}
use Rattle.camp_questions.proofs.Growing.{grown_in_order}
use Rattle.camp_questions.proofs.PatchFronts.{all_images}

-- the first patches, with their dependencies in a branch whose patches have these names
pub record AreNeeded (branch : List Catch) (names done : List (List ℕ)) (all : List Needed) : Type 0 where
  pub names_are : map (λ (patch : Needed). patch.name) all ≡ done
  pub needs : AllByRecursion (λ patch. NeedsThese branch (needing names patch)) all

pub none_needed : (branch : List Catch) (names : List (List ℕ)) (all : List Needed) → all ≡ [] → AreNeeded branch names (take 0 names) all
none_needed branch names all none = rw none (record { names_are = refl; needs = tt })

pub one_needed : (branch : List Catch) (names own : List (List ℕ)) (i : ℕ) (n d : List ℕ) (all next : List Needed) (one : Needed) → i < length own → n ≡ get_or own i d → AreNeeded branch names (take i own) all → NeedsThese branch (needing names one) → one.name ≡ n → next ≡ all ++ one ∷ [] → AreNeeded branch names (take (i + 1) own) next
one_needed branch names own i n d all next one within is each needs called becomes = record {
  names_are =
      ap (map (λ (patch : Needed). patch.name)) becomes ∙ map-append (λ (patch : Needed). patch.name) all (one ∷ []) ∙ (λ k. each.names_are k ++ (called ∙ is) k ∷ []) ∙ sym (take_more own i d within);
  needs = subst (AllByRecursion (λ patch. NeedsThese branch (needing names patch))) (sym becomes) (all_append (λ patch. NeedsThese branch (needing names patch)) all (one ∷ []) each.needs (needs, tt));
}

pub all_needed : (branch : List Catch) (names own : List (List ℕ)) (all : List Needed) → own ≡ names → AreNeeded branch names own all → NeedEach branch names all
all_needed branch names own all whole each =
    record { names_are = each.names_are ∙ whole; needs = each.needs }

-- the marks of a test mark the names that pass it
pub marked_by : (test : List ℕ → Bool) (names : List (List ℕ)) → marked names (map test names) ≡ filter test names
marked_by test [] = refl
marked_by test (n ∷ names) = ap (λ l. cond (test n) (n ∷ l) l) (marked_by test names)

-- what blocks a patch is marked
pub grown_needs : (branch : List Catch) (names : List (List ℕ)) (name : List ℕ) (set grown : List (List ℕ)) (marks : List Bool) → names ≡ names_of branch → AreAlike set (name ∷ []) → GrowsToFront branch set grown → marks ≡ map (is_among grown) names → NeedsThese branch (record { name = name; needs = marked names marks })
grown_needs branch names name set grown marks own alike grows are =
    let told : marked names marks ≡ in_order branch grown = ap (marked names) are ∙ marked_by (is_among grown) names ∙ ap (filter (is_among grown)) own in
    (marked names marks, grown_in_order (map name_of branch) (CanMoveToFront branch) (AreBlockedBy branch) (to_front branch) branch (name ∷ []) set grown (marked names marks) alike grows told, λ n. refl)

-- the dependencies of a patch in a branch
abbrev pub needing_in : List Catch → List ℕ → Needing
needing_in branch name = record { name = name; needs = (needs_are_determined branch (name ∷ [])).0 }

pub each_needs : (branch : List Catch) (names : List (List ℕ)) → AllByRecursion (NeedsThese branch) (map (needing_in branch) names)
each_needs branch [] = tt
each_needs branch (n ∷ names) =
    let one = needs_are_determined branch (n ∷ []) in ((one.0, one.1, λ name. refl), each_needs branch names)

-- each branch has a graph
abbrev pub drawn_in : List Catch → Drawn
drawn_in branch =
    let all = map (needing_in branch) (names_of branch) in
    record { patches = map (node_of branch all) all; conflicts = (conflicts_are_determined branch).0 }

pub is_drawn : (branch : List Catch) → IsGraph branch (drawn_in branch)
is_drawn branch = record {
  all = map (needing_in branch) (names_of branch);
  names = map-map (λ (patch : Needing). patch.name) (needing_in branch) (names_of branch) ∙ map-id (names_of branch);
  needs = each_needs branch (names_of branch);
  patches = refl;
  conflicts = (conflicts_are_determined branch).1;
}

pub graph_of_nodes : (branch : List Catch) (names : List (List ℕ)) (all : List Needed) (nodes : List Node) (pairs told : List (List ℕ × List ℕ)) → names ≡ names_of branch → NeedEach branch names all → nodes ≡ map (node_in names (map (needing names) all)) (map (needing names) all) → AreConflicts branch pairs → told ≡ pairs → IsGraph branch (record { patches = nodes; conflicts = told })
graph_of_nodes branch names all nodes pairs told own each drawn are same = record {
  all = map (needing names) all;
  names = map-map (λ (patch : Needing). patch.name) (needing names) all ∙ each.names_are ∙ own;
  needs = all_images (needing names) (NeedsThese branch) all each.needs;
  patches = drawn ∙ ap (λ n. map (node_in n (map (needing names) all)) (map (needing names) all)) own;
  conflicts = subst (AreConflicts branch) (sym same) are;
}
