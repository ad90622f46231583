use Rattle.std.proofs.Common.{ap, ◌∙◌, ◌==◌, length, Option, ℕ, unwrap_or, rules, tests}
use Rattle.std.proofs.lemmas.Iterator.{YieldsList-from_slice}
use Rattle.std.proofs.lemmas.Iterator.Search.{position_from_yields_List}
use Rattle.camp_script.proofs.WordLemmas.{position-at_end}
use Rattle.camp_entries.proofs.titles.space_in.Goals as goal

pub returns-clause-place : goal.returns-clause-place
returns-clause-place c =
    let bytes = c.args.bytes.now in
    let found = position_from_yields_List (λ byte. byte == 32) _ _ c.position.result c.position.ensures.ran (YieldsList-from_slice bytes cc) (λ x b q k. search (rules, tests)) in
    c.unwrap_or.ensures ∙ ap (λ (o : Option ℕ). unwrap_or o (length bytes)) found ∙ position-at_end (λ byte. byte == 32) bytes
