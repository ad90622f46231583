use Rattle.camp_branch.proofs.Words.{rules, catch_key}
use Rattle.std.proofs.lemmas.Iterator.{YieldsList-from_slice, YieldsList-from_map, items_from_collect}
use Rattle.camp_branch.proofs.pulls.keys.Goals as goal

pub returns : goal.returns
returns c =
    items_from_collect _ c.collect.ensures.ran (YieldsList-from_map _ catch_key (YieldsList-from_slice c.args.list.now cc) c.map.ensures.closure (λ x r q k. search rules))
