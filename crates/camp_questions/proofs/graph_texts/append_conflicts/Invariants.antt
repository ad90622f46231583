use Rattle.camp_questions.proofs.Words.{◌≡◌, ◌++◌, take, string_bytes, flat_map, conflict_text}
use Rattle.camp_questions.proofs.graph_texts.append_conflicts.Given as goal

abbrev pub invariant-loop-pair : goal.invariant-loop-pair
invariant-loop-pair l = string_bytes l.text ≡ string_bytes l.initial.text ++ flat_map (conflict_text l.unsettled) (take l.pair-index l.pairs)
