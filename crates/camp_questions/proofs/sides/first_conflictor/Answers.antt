use Rattle.std.proofs.lemmas.Iterator.Consumers.{YieldsList-at, YieldsList-from_rest, count_from_yields_List}
use Rattle.std.proofs.lemmas.Iterator.Search.{YieldsList-from_take_while}
use Rattle.std.proofs.lemmas.List.Folds.{length-prefix_len}
use Rattle.std.proofs.lemmas.List.Sums.{prefix_len-le-length}
use Rattle.camp_questions.proofs.Words.{◌≤◌, ◌∙◌, length, rules, subst, sym}
use Rattle.camp_questions.specs.Inside.Seeing.{is_plain_catch}
use Rattle.camp_questions.proofs.sides.first_conflictor.Goals as goal

pub returns-clause-index : goal.returns-clause-index
returns-clause-index c =
    count_from_yields_List _ _ c.count.ensures.ran
    (YieldsList-from_take_while {s = c.take_while.result} _ is_plain_catch (YieldsList-at c.take_while.ensures.source (YieldsList-from_rest c.args.catches.now c.iter.ensures.rest)) c.take_while.ensures.closure c.take_while.ensures.done (λ x b q k. search (rules)))
    ∙ length-prefix_len is_plain_catch c.args.catches.now

pub returns-clause-within : goal.returns-clause-within
returns-clause-within c =
    subst (λ n. n ≤ length c.args.catches.now) (sym (returns-clause-index c)) (prefix_len-le-length is_plain_catch c.args.catches.now)
