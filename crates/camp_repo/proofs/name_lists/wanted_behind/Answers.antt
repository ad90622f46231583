use Rattle.std.proofs.lemmas.Iterator.{YieldsList-from_map, items_from_collect}
use Rattle.std.proofs.lemmas.Iterator.Consumers.{YieldsList-at, YieldsList-from_filter, YieldsList-from_rest}
use Rattle.camp_repo.proofs.Words.{ap, ◌∙◌, drop, not, rules, tests, Ok, has_patch, is_among, name_of}
use Rattle.camp_repo.proofs.NameSteps.{wanted_behind_fronts}
use Rattle.camp_repo.proofs.name_lists.wanted_behind.Goals as goal

pub returns : goal.returns
returns c name =
    let rest = c.iter_from.ensures.rest ∙ ap (drop c.args.long) c.catches-2.ensures.value in
    let lacked = items_from_collect {E = Unit {0}} (Ok c.in_ok-lacked.lacked) c.in_ok-lacked.ensures.ran
    (YieldsList-from_filter {s = c.filter.result} _ (λ n. not (has_patch c.args.ours.now n))
    (YieldsList-at c.filter.ensures.source (YieldsList-from_map {s = c.map.result} _ name_of (YieldsList-at c.map.ensures.source (YieldsList-from_rest (drop c.args.long c.args.theirs.now) rest)) c.map.ensures.closure (λ x r q k. search rules)))
    c.filter.ensures.closure (λ x b q k. search (rules, tests))) in
    c.in_ok-set_of.ensures.exact name ∙ ap (λ l. is_among l name) (c.deref.ensures.value ∙ lacked)
    ∙ wanted_behind_fronts c.args.theirs.now c.args.ours.now c.args.long c.requires name
