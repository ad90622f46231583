use Rattle.std.proofs.lemmas.Iterator.Consumers.{YieldsList-at, YieldsList-from_filter, YieldsList-from_rest, count_from_yields_List}
use Rattle.camp_repo.proofs.Words.{ap, ◌∙◌, drop, filter, length, rules, tests, slice_cmp, nat_cmp, contains_key, map_of, Catch, name_of, has_listed}
use Rattle.camp_repo.proofs.name_lists.count_behind.Goals as goal

pub returns : goal.returns
returns c =
    let names = map_of (slice_cmp nat_cmp) c.args.names.now in
    let behind = drop c.args.from c.args.branch.now in
    let rest = c.iter_from.ensures.rest ∙ ap (drop c.args.from) c.catches-catches.ensures.value in
    count_from_yields_List _ _ c.count.ensures.ran
    (YieldsList-from_filter {s = c.filter.result} _ (λ (k : Catch). contains_key names (name_of k)) (YieldsList-at c.filter.ensures.source (YieldsList-from_rest behind rest)) c.filter.ensures.closure (λ x b q k. search (rules, tests)))
    ∙ ap (λ p. length (filter p behind)) (λ i k. has_listed names (name_of k) i)
