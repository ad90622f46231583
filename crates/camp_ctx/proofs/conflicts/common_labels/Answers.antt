use Rattle.camp_ctx.proofs.Words.{rules, tests, label_of, has_label}
use Rattle.std.proofs.lemmas.Iterator.{YieldsList-from_slice, YieldsList-from_map, items_from_collect}
use Rattle.std.proofs.lemmas.Iterator.Consumers.{YieldsList-from_filter}
use Rattle.camp_ctx.proofs.conflicts.common_labels.Goals as goal

pub returns : goal.returns
returns c =
    items_from_collect _ c.collect.ensures.ran (YieldsList-from_filter _ (has_label c.args.t.now) (YieldsList-from_map _ label_of (YieldsList-from_slice c.args.s.now cc) c.map.ensures.closure (λ x r q k. search rules)) c.filter.ensures.closure (λ x r q k. search (rules, tests)))
