use Rattle.camp_questions.proofs.Words.{List, ◌∙◌, sym, ap, subst, map, Catch, NeedEach, AreDistinct, needing, node_in, Needed, names_of_patches}
use Rattle.camp_questions.proofs.GraphSteps.{graph_of_nodes}
use Rattle.camp_questions.proofs.graphs.graph_of.Goals as goal

pub all_needed-requires : goal.all_needed-requires
all_needed-requires c = c.deref-2.ensures.value ∙ c.in_ok-names.ensures.exact

pub nodes-requires-clause-named : goal.nodes-requires-clause-named
nodes-requires-clause-named c =
    ap (map (λ (patch : Needed). patch.name)) c.deref-3.ensures.value ∙ c.in_ok-all_needed.ensures.names_are ∙ c.deref-2.ensures.value ∙ sym c.deref.ensures.value

pub nodes-requires-clause-distinct : goal.nodes-requires-clause-distinct
nodes-requires-clause-distinct c =
    let lawful = c.catches.ensures.lawful in
    subst AreDistinct (sym (c.deref.ensures.value ∙ c.in_ok-names.ensures.exact ∙ names_of_patches c.args.branch.now lawful.patches lawful.has)) lawful.has.distinct

pub returns : goal.returns
returns c =
    let branch : List Catch = c.args.branch.now in
    let each = subst (λ own. NeedEach branch own c.in_ok-all_needed.field-0.items) c.deref-2.ensures.value c.in_ok-all_needed.ensures in
    let drawn = c.in_ok-patches.ensures ∙ (λ i. map (node_in (c.deref.ensures.value i) (map (needing (c.deref.ensures.value i)) (c.deref-3.ensures.value i))) (map (needing (c.deref.ensures.value i)) (c.deref-3.ensures.value i))) in
    graph_of_nodes branch c.in_ok-names.names.items c.in_ok-all_needed.field-0.items c.in_ok-patches.patches.items c.in_ok-pairs.pairs.items c.new.result c.in_ok-names.ensures.exact each drawn c.in_ok-pairs.ensures.exact c.new.ensures.exact
