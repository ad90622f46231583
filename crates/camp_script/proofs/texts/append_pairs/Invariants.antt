use Rattle.camp_script.proofs.Common.{◌≡◌, ◌++◌, take, flat_map, pair_text}
use Rattle.camp_script.proofs.texts.append_pairs.Given as goal

abbrev pub invariant-loop-first : goal.invariant-loop-first
invariant-loop-first l = l.text.items ≡ l.initial.text.items ++ flat_map pair_text (take l.first-index l.pairs)
