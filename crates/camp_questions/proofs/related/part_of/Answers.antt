use Rattle.camp_questions.proofs.Words.{Drawn, List, [], ◌∷◌, ℕ, Bool, ◌≡◌, ◌&&◌, ◌∙◌, ap, filter, map, subst, sym, reverse, reverse-reverse, Catch, has_listed, map_of, nat_cmp, slice_cmp, ArePatches, IsPlain, Needed, has_name, is_one_or_neighbour, is_among, name_of, among_once, needing, node_in}
use Rattle.camp_questions.proofs.GraphSteps.{drawn_in}
use Rattle.camp_questions.proofs.PartsOfOne.{drawn_with, hangs_alike, part_nodes, related_distinct}
use Rattle.camp_questions.proofs.PatchesBack.{reversed}
use Rattle.camp_questions.proofs.Picturing.{part_made}
use Rattle.camp_questions.proofs.related.part_of.Goals as goal

pub needed_among-requires : goal.needed_among-requires
needed_among-requires c =
    subst ArePatches (reverse-reverse c.args.back.now) (reversed (reverse c.args.back.now) c.requires.inverted.are)

pub nodes-requires-clause-named : goal.nodes-requires-clause-named
nodes-requires-clause-named c =
    ap (map (λ (patch : Needed). patch.name)) c.deref.ensures.value ∙ (c.in_ok-needed.ensures c.args.branch.now c.requires.inverted).names_are

pub nodes-requires-clause-distinct : goal.nodes-requires-clause-distinct
nodes-requires-clause-distinct c =
    related_distinct c.args.branch.now c.requires.related.0 c.args.names.now c.catches.ensures.lawful c.requires.related.1

pub returns : goal.returns
returns c name has are =
    let branch : List Catch = c.args.branch.now in
    let names : List (List ℕ) = c.args.names.now in
    let inverted = c.requires.inverted in
    let lawful = c.catches.ensures.lawful in
    let plain : IsPlain branch = record { patches = inverted.forth; are = inverted.plain; room = inverted.room } in
    let there = among_once (map name_of branch) name ∙ has in
    let marks = c.in_ok-needed.ensures branch inverted in
    let others : List ℕ → Bool = has_name c.in_ok-kept.kept in
    let same : (n : List ℕ) → others n ≡ is_among names n = λ n. has_listed (map_of (slice_cmp nat_cmp) c.in_ok-kept.kept) n ∙ c.in_ok-kept.ensures.exact n in
    let pairs : List (List ℕ × List ℕ) = c.in_ok-found.found.items in
    let graph : Drawn = record { patches = (drawn_in branch).patches; conflicts = pairs } in
    let is = drawn_with branch pairs c.in_ok-found.ensures.exact in
    let drawn = c.in_ok-patches.ensures ∙ ap (λ l. map (node_in names (map (needing names) l)) (map (needing names) l)) c.deref.ensures.value ∙ part_nodes branch plain lawful name there names are c.in_ok-needed.needed.items marks others same in
    let between = c.in_ok-conflicts.ensures ∙ ap (filter (λ pair. others pair.0 && others pair.1)) c.new-pairs.ensures.exact in
    (graph, is, λ unsettled. part_made (is_one_or_neighbour graph.patches (name ∷ [])) others graph.patches c.in_ok-patches.patches.items pairs c.in_ok-conflicts.conflicts unsettled (λ n. same n ∙ sym (hangs_alike branch plain lawful name there names are graph is n)) drawn between)
