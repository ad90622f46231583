use Rattle.camp_script.proofs.Common.{ap, ◌∙◌, length, Option, ℕ, unwrap_or, rules, tests, YieldsList-from_slice, position_from_yields_List, is_blank}
use Rattle.camp_script.proofs.WordLemmas.{position-at_end}
use Rattle.camp_script.proofs.lines.word_len.Goals as goal

pub returns-clause-place : goal.returns-clause-place
returns-clause-place c =
    let bytes = c.args.bytes.now in
    let found = position_from_yields_List is_blank _ _ c.position.result c.position.ensures.ran (YieldsList-from_slice bytes cc) (λ x b q k. search (rules, tests)) in
    c.unwrap_or.ensures ∙ ap (λ (o : Option ℕ). unwrap_or o (length bytes)) found ∙ position-at_end is_blank bytes
