use Rattle.camp_talk.proofs.Words.{◌≡◌, words_of}
use Rattle.camp_talk.specs.Diagnostics.{recovery_in_words}
use Rattle.camp_talk.proofs.recovery.recovery_in_words.Given as goal

abbrev pub invariant-loop-word : goal.invariant-loop-word
invariant-loop-word l = recovery_in_words l.word-iterator l.other ≡ recovery_in_words (words_of l.line) l.other
