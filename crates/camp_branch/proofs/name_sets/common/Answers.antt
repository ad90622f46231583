use Rattle.std.proofs.lemmas.Iterator.{YieldsList-from_slice, YieldsList-from_map, items_from_collect}
use Rattle.std.proofs.lemmas.Iterator.Consumers.{YieldsList-at, YieldsList-from_chain, YieldsList-from_filter}
use Rattle.camp_branch.proofs.Words.{◌||◌, Ok, ap, ◌∙◌, rules, tests, map, filter, slice_cmp, nat_cmp, contains_key, map_of, is_among, name_of, bytes_eq, list_any-append}
use Rattle.camp_branch.proofs.Names.{among_kept}
use Rattle.camp_branch.proofs.NameSets.{has_listed}
use Rattle.camp_branch.proofs.name_sets.common.Goals as goal

pub returns : goal.returns
returns c name =
    let names = map_of (slice_cmp nat_cmp) c.args.names.now in
    let others = map_of (slice_cmp nat_cmp) c.args.other_names.now in
    let both = items_from_collect {E = Unit {0}} (Ok c.in_ok-both.both) c.in_ok-both.ensures.ran
    (YieldsList-from_chain {s = c.chain.result}
    (YieldsList-at c.chain.ensures.first (YieldsList-from_filter {s = c.filter-theirs.result} _ (contains_key others) (YieldsList-from_map _ name_of (YieldsList-from_slice c.args.list.now cc) c.map.ensures.closure (λ x r q k. search rules)) c.filter-theirs.ensures.closure (λ x r q k. search (rules, tests))))
    (YieldsList-at c.chain.ensures.second (YieldsList-from_filter {s = c.filter-ours.result} _ (contains_key names) (YieldsList-from_map _ name_of (YieldsList-from_slice c.args.others.now cc) c.map-2.ensures.closure (λ x r q k. search rules)) c.filter-ours.ensures.closure (λ x r q k. search (rules, tests))))
    c.chain.ensures.first_done c.chain.ensures.second_done) in
    has_listed _ name ∙ c.in_ok-set_of.ensures.exact name ∙ ap (λ l. is_among l name) (c.deref.ensures.value ∙ both)
    ∙ list_any-append (bytes_eq name) (filter (contains_key others) (map name_of c.args.list.now)) (filter (contains_key names) (map name_of c.args.others.now))
    ∙ (λ i. among_kept (contains_key others) (map name_of c.args.list.now) name i || among_kept (contains_key names) (map name_of c.args.others.now) name i)
