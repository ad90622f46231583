use Rattle.camp_script.proofs.Common.{◌<◌, ◌+◌, ap, ◌∙◌, ◌++◌, ◌∷◌, [], codes, decimal, sym, take, length, arith, take_more, refl, entries_text, entry_text, line_text}
use Rattle.camp_script.proofs.HistoryLemmas.{one_more}
use Rattle.camp_script.proofs.histories.append_history.Goals as goal

pub loop-seat-preserved : goal.loop-seat-preserved
loop-seat-preserved c =
    let within : c.loop-seat.seat-index < length c.args.history.now = omega arith in
    let last = take_more c.args.history.now c.loop-seat.seat-index c.loop-seat-item.result within ∙ ap (λ entry. take c.loop-seat.seat-index c.args.history.now ++ entry ∷ []) (sym c.loop-seat-item.is) in (
      ap (λ n. n + 1) c.loop-seat.invariant.0,
      one_more c.args.history.now entry_text entries_text (λ n. refl) (λ n entry entries. refl) (c.args.text.now.items ++ line_text (codes "history" ∷ decimal (length c.args.history.now) ∷ [])) c.loop-seat.text.items c.append_entry.new.text.items c.loop-seat.seat-index c.loop-seat-item.result c.loop-seat.invariant.1 within last
          (c.in_ok-append_entry.ensures ∙ ap (λ n. c.loop-seat.text.items ++ entry_text (n + 1) c.loop-seat-item.result) c.loop-seat.invariant.0),
    )
