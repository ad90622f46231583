use Rattle.std.proofs.Common.{ap, ◌∙◌, ◌==◌, length, Option, ℕ, rules, tests}
use Rattle.std.specs.Prelude.{unwrap_or}
use Rattle.std.proofs.lemmas.Iterator.{YieldsList-from_slice}
use Rattle.std.proofs.lemmas.Iterator.Search.{position_from_yields_List}
use Rattle.camp_stream.proofs.ItemLemmas.{position-at_end}
use Rattle.camp_stream.proofs.words.len_before.Goals as goal

pub returns-clause-place : goal.returns-clause-place
returns-clause-place c =
    let bytes = c.args.bytes.now in
    let found = position_from_yields_List (λ byte. byte == c.args.mark) _ _ c.position.result c.position.ensures.ran (YieldsList-from_slice bytes cc) (λ x b q k. search (rules, tests)) in
    c.unwrap_or.ensures ∙ ap (λ (o : Option ℕ). unwrap_or o (length bytes)) found ∙ position-at_end (λ byte. byte == c.args.mark) bytes
