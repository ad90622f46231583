use Rattle.camp_script.proofs.Common.{◌≡◌, ◌∷◌, [], ◌++◌, codes, decimal, length, take, line_text, entries_text}
use Rattle.camp_script.proofs.histories.append_history.Given as goal

abbrev pub invariant-loop-seat : goal.invariant-loop-seat
invariant-loop-seat l =
    (l.at ≡ l.seat-index)
    × (l.text.items ≡ (l.fn.text.items ++ line_text (codes "history" ∷ decimal (length l.history) ∷ [])) ++ entries_text 1 (take l.seat-index l.history))
