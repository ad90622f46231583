use Rattle.std.proofs.lemmas.Iterator.{YieldsList-from_slice, items_from_collect}
use Rattle.std.proofs.lemmas.Iterator.Consumers.{YieldsList-from_copied, YieldsList-from_filter}
use Rattle.camp_repo.proofs.Words.{ap, ◌∙◌, not, rules, tests, Ok, has_patch, is_among}
use Rattle.camp_repo.proofs.name_lists.wanted_of.Goals as goal

pub returns : goal.returns
returns c name =
    let lacked = items_from_collect {E = Unit {0}} (Ok c.in_ok-lacked.lacked) c.in_ok-lacked.ensures.ran
    (YieldsList-from_filter {s = c.filter.result} _ (λ n. not (has_patch c.args.branch.now n)) (YieldsList-from_copied (YieldsList-from_slice c.args.names.now cc)) c.filter.ensures.closure (λ x b q k. search (rules, tests))) in
    c.in_ok-set_of.ensures.exact name ∙ ap (λ l. is_among l name) (c.deref.ensures.value ∙ lacked)
