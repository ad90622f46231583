use Rattle.camp_script.proofs.Common.{ap, sym, ◌∙◌, ◌++◌, ◌∷◌, [], append_assoc, decimal, spaced, call_words, join_with_byte}
use Rattle.camp_script.proofs.HistoryLemmas.{call_spaced, entry_done}
use Rattle.camp_script.proofs.histories.append_entry.Goals as goal

pub returns : goal.returns
returns c =
    let at = c.as_bytes.ensures.value ∙ c.format.ensures.text in
    let words = call_words c.args.call.now in
    let front = c.append_number.new.text.items in
    entry_done c.args.text.now.items (decimal c.args.at) (decimal c.args.seat) words c.extend_from_slice.new.self.items front c.append_call_words.new.text.items c.push-2.new.self.items
    (c.in_ok-extend_from_slice.ensures.items ∙ ap (λ t. c.args.text.now.items ++ t) at)
    (c.in_ok-append_number.ensures ∙ ap (λ n. c.extend_from_slice.new.self.items ++ spaced (decimal n ∷ [])) c.from.ensures)
    (c.in_ok-append_call_words.ensures.text ∙ ap (λ t. t ++ join_with_byte 32 words) c.in_ok-push.ensures.items ∙ append_assoc front (32 ∷ []) (join_with_byte 32 words)
    ∙ ap (λ t. front ++ t) (sym (call_spaced c.args.call.now)))
    c.in_ok-push-2.ensures.items
