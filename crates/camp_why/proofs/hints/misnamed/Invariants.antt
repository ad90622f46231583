use Rattle.camp_why.proofs.Words.{◌≡◌}
use Rattle.camp_script.specs.Lines.{words_of}
use Rattle.camp_why.specs.Hints.{misnamed}
use Rattle.camp_why.proofs.hints.misnamed.Given as goal

abbrev pub invariant-loop-word : goal.invariant-loop-word
invariant-loop-word l = misnamed l.word-iterator ≡ misnamed (words_of l.line)
