-- Gathers the parts of a graph.
use Rattle.camp_questions.proofs.Words.{◌≡◌, ◌<◌, ◌+◌, ◌&&◌, ℕ, Bool, true, false, List, [], ◌∷◌, map, filter, drop, length, get_or, refl, sym, ap, ◌∙◌, arith, drop_more, Node, ◌==◌, true≢false, eqb-true, Picture, graph_part, is_one_or_neighbour, kept_node, part_with, with_needing, with_needing_one, with_needs, with_needs_of}

-- one more patch of the backward pass adds its dependencies
pub one_brought : (nodes : List Node) (i at : ℕ) (node d : Node) (names was next : List (List ℕ)) → i + 1 ≡ at → i < length nodes → node ≡ get_or nodes i d → was ≡ with_needs (drop at nodes) names → next ≡ with_needs_of node was → next ≡ with_needs (drop i nodes) names
one_brought nodes i at node d names was next follows within is so_far becomes =
    let here : drop i nodes ≡ node ∷ drop at nodes = drop_more nodes i d within ∙ (λ k. sym is k ∷ drop (follows k) nodes) in
    becomes ∙ ap (with_needs_of node) so_far ∙ sym (ap (λ l. with_needs l names) here)

-- one more patch of the forward pass is added
pub one_joined : (nodes : List Node) (i : ℕ) (node d : Node) (was next aim : List (List ℕ)) → i < length nodes → node ≡ get_or nodes i d → with_needing (drop i nodes) was ≡ aim → next ≡ with_needing_one was node → with_needing (drop (i + 1) nodes) next ≡ aim
one_joined nodes i node d was next aim within is so_far becomes =
    let here : drop i nodes ≡ node ∷ drop (i + 1) nodes = drop_more nodes i d within ∙ ap (λ n. n ∷ drop (i + 1) nodes) (sym is) in
    ap (with_needing (drop (i + 1) nodes)) becomes ∙ sym (ap (λ l. with_needing l was) here) ∙ so_far

-- the part of a graph made of its kept parts
pub part_made : (keeps others : List ℕ → Bool) (nodes left : List Node) (pairs kept unsettled : List (List ℕ × List ℕ)) → ((name : List ℕ) → others name ≡ keeps name) → left ≡ map (kept_node others) (filter (λ (n : Node). others n.name) nodes) → kept ≡ filter (λ pair. others pair.0 && others pair.1) pairs
    → record { patches = left; conflicts = kept; unsettled = unsettled } ≡ part_with keeps (record { patches = nodes; conflicts = pairs; unsettled = unsettled })
part_made keeps others nodes left pairs kept unsettled same are pairs_are =
    (λ i. record { patches = are i; conflicts = pairs_are i; unsettled = unsettled })
    ∙ ap (λ f. part_with f (record { patches = nodes; conflicts = pairs; unsettled = unsettled })) (λ i name. same name i)

-- if no patch is named, the whole graph
pub all_drawn : (names : List (List ℕ)) (whole : Picture) (test : Bool) → test ≡ (length names == 0) → test ≡ true → whole ≡ graph_part names whole
all_drawn [] whole test counts is = refl
all_drawn (name ∷ names) whole test counts is =
    let none : length (name ∷ names) ≡ 0 = eqb-true _ _ (sym counts ∙ is) in absurd (omega (arith, none))

-- else the part that belongs to those named
pub part_drawn : (names : List (List ℕ)) (whole told : Picture) (test : Bool) → test ≡ (length names == 0) → test ≡ false → told ≡ part_with (is_one_or_neighbour whole.patches names) whole → told ≡ graph_part names whole
part_drawn [] whole told test counts is drawn = absurd (true≢false (sym counts ∙ is))
part_drawn (name ∷ names) whole told test counts is drawn = drawn
