use Rattle.std.proofs.lemmas.Iterator.Consumers.{YieldsList-at, YieldsList-from_rest, count_from_yields_List}
use Rattle.std.proofs.lemmas.Iterator.Search.{YieldsList-from_take_while}
use Rattle.std.proofs.lemmas.List.Folds.{length-prefix_len}
use Rattle.std.specs.List.{prefix_len}
use Rattle.camp_branch.proofs.Words.{◌∙◌, ap, rules, tests, Bool, not, Catch, slice_cmp, nat_cmp, contains_key, map_of, name_of}
use Rattle.camp_branch.proofs.NameSets.{has_listed}
use Rattle.camp_branch.proofs.name_sets.front_before.Goals as goal

pub returns : goal.returns
returns c =
    let names = map_of (slice_cmp nat_cmp) c.args.names.now in
    let stays : Catch → Bool = λ k. not (contains_key names (name_of k)) in
    count_from_yields_List _ _ c.count.ensures.ran
    (YieldsList-from_take_while {s = c.take_while.result} _ stays (YieldsList-at c.take_while.ensures.source (YieldsList-from_rest c.args.catches.now c.iter.ensures.rest)) c.take_while.ensures.closure c.take_while.ensures.done (λ x b q k. search (rules, tests)))
    ∙ length-prefix_len stays c.args.catches.now
    ∙ ap (λ p. prefix_len p c.args.catches.now) (λ i k. not (has_listed names (name_of k) i))
