use Rattle.camp_base.proofs.Words.{◌==◌, rules, tests, is_path_part}
use Rattle.std.proofs.lemmas.Iterator.Search.{all_from_yields_List}
use Rattle.std.proofs.lemmas.Iterator.Splits.{YieldsList-from_slice_split}
use Rattle.camp_base.proofs.paths.has_path_parts.Goals as goal

pub returns : goal.returns
returns c =
    all_from_yields_List is_path_part _ _ _ c.all.ensures.ran
    (YieldsList-from_slice_split _ (λ byte. byte == 47) _ c.split.ensures.rest c.split.ensures.done c.split.ensures.closure (λ x b q k. search (rules, tests)))
    (λ x b q k. search (rules, tests))
