use Rattle.camp_script.proofs.Common.{◌≡◌, ◌≤◌, ◌++◌, length, map}
use Rattle.camp_script.proofs.lines.first_words.Given as goal

abbrev pub invariant-loop-word : goal.invariant-loop-word
invariant-loop-word l = (map (λ word. word.now) l.first.items ++ l.word-iterator ≡ l.fn.words) × (length l.first.items ≤ 6)
