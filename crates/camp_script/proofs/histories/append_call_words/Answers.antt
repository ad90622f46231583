use Rattle.camp_script.proofs.Common.{◌∷◌, [], ap, sym, ◌∙◌, codes, spaced, join_with_byte, call_words}
use Rattle.camp_script.specs.HistoryTexts.{changes_words}
use Rattle.camp_script.proofs.HistoryLemmas.{further, joined_further}
use Rattle.camp_script.proofs.histories.append_call_words.Goals as goal

pub returns-in_ok-append_command-in-Record-clause-text : goal.returns-in_ok-append_command-in-Record-clause-text
returns-in_ok-append_command-in-Record-clause-text c =
    let words = changes_words c.prims.result.now in
    let is = joined_further (codes "record") (c.in-Record.branch ∷ c.in-Record.name ∷ []) words ∙ ap (λ ps. join_with_byte 32 (codes "record" ∷ c.in-Record.branch ∷ c.in-Record.name ∷ changes_words ps)) c.prims.ensures.value
    ∙ ap (λ asked. join_with_byte 32 (call_words asked)) (sym c.in-Record.is) in
    further c.args.text.now.items _ (spaced words) _ c.append_command-in-Record.new.text.items c.append_changes_words.new.text.items c.append_changes_words.result c.in_ok-append_command-in-Record.ensures.text is c.append_changes_words.ensures
