use Rattle.std.proofs.lemmas.Iterator.{YieldsList-from_slice, YieldsList-from_map, items_from_collect}
use Rattle.std.proofs.lemmas.Iterator.Consumers.{YieldsList-at, YieldsList-from_filter}
use Rattle.camp_catch.proofs.Words.{rules, tests, ◌&&◌, contains_key, label_of, Named, patch_key}
use Rattle.camp_catch.proofs.conflictors.labels_undone.Goals as goal

pub returns : goal.returns
returns c =
    items_from_collect _ c.collect.ensures.ran (YieldsList-from_map _ label_of (YieldsList-at c.map.ensures.source (YieldsList-from_filter _ (λ (p : Named). p.inverse && contains_key c.args.ys.now (patch_key p)) (YieldsList-from_slice c.args.r.now cc) c.filter.ensures.closure (λ x r q k. search (rules, tests)))) c.map.ensures.closure (λ x r q k. search rules))
