use Rattle.camp_questions.proofs.Words.{◌≡◌, map, take, catch_hash}
use Rattle.camp_questions.proofs.fast.changed_files.numbers_of.Given as goal

abbrev pub invariant-loop-catch : goal.invariant-loop-catch
invariant-loop-catch l = l.numbers.items ≡ map catch_hash (take l.catch-index l.catches)
