use Rattle.camp_why.proofs.Words.{◌≡◌, []}
use Rattle.camp_script.specs.Lines.{words_of}
use Rattle.camp_why.specs.Hints.{last_words}
use Rattle.camp_why.proofs.hints.last_words.Given as goal

abbrev pub invariant-loop-word : goal.invariant-loop-word
invariant-loop-word l = last_words l.before l.last l.word-iterator ≡ last_words [] [] (words_of l.line)
