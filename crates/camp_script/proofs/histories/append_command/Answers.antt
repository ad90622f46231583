use Rattle.camp_script.proofs.Common.{◌++◌, ap, sym, ◌∙◌, append_assoc, spaced}
use Rattle.camp_script.proofs.HistoryLemmas.{further, joined, joined_further}
use Rattle.camp_script.proofs.histories.append_command.Goals as goal

pub returns-clause-text : goal.returns-clause-text
returns-clause-text c =
    let old = c.args.text.now.items in
    let names = spaced c.args.names.now in
    let front = c.in_ok-append_named.ensures.text ∙ ap (λ t. t ++ names) c.in_ok-extend_from_slice.ensures.items ∙ append_assoc old c.args.word.now names
    ∙ ap (λ t. old ++ t) (sym (joined c.args.word.now c.args.names.now)) in
    further old _ (spaced c.args.listed.now) _ c.append_named.new.text.items c.append_named-2.new.text.items c.append_named-2.result front (joined_further c.args.word.now c.args.names.now c.args.listed.now) c.append_named-2.ensures.text
