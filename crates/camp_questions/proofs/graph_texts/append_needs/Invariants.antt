use Rattle.camp_questions.proofs.Words.{◌≡◌, ◌++◌, take, string_bytes, flat_map, arrow_text, codes}
use Rattle.camp_questions.proofs.graph_texts.append_needs.Given as goal

abbrev pub invariant-loop-on : goal.invariant-loop-on
invariant-loop-on l = string_bytes l.text ≡ string_bytes l.initial.text ++ flat_map (λ on. arrow_text l.name on (codes ";")) (take l.on-index l.needs)
