use Rattle.camp_script.proofs.Common.{◌≡◌, ℕ, List, true}
use Rattle.camp_script.proofs.NameLemmas.{NamesFrom}
use Rattle.camp_script.proofs.words.list_names.Given as goal

abbrev pub invariant-loop-word : goal.invariant-loop-word
invariant-loop-word l = (done : List (List ℕ)) × NamesFrom l.number l.fn.words done l.word-iterator × (l.has_memory ≡ true → l.names.items ≡ done)
