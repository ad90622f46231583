use Rattle.camp_git.proofs.Words.{◌==◌, ◌∙◌, ap, rules}
use Rattle.std.proofs.Common.{tests}
use Rattle.std.proofs.lemmas.Iterator.Search.{any_from_yields_List}
use Rattle.std.proofs.lemmas.Iterator.Splits.{YieldsList-from_slice_split}
use Rattle.camp_git.specs.Holding.{has_git_part, is_git_part}
use Rattle.camp_git.proofs.folders.has_git_part.Goals as goal

pub returns : goal.returns
returns c =
    any_from_yields_List is_git_part _ _ _ c.any.ensures.ran
    (YieldsList-from_slice_split _ (λ byte. byte == 47) _ c.split.ensures.rest c.split.ensures.done c.split.ensures.closure (λ x b q k. search (rules, tests)))
    (λ x b q k. search (rules, tests))
    ∙ ap has_git_part c.bytes.ensures.value
