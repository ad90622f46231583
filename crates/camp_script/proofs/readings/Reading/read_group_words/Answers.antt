use Rattle.camp_script.proofs.Common.{◌≡◌, false, ◌==◌, slice_index, ap, map, sym, ◌∙◌, rules}
use Rattle.camp_script.proofs.FirstWords.{six_are_enough_in_group}
use Rattle.camp_script.proofs.readings.Reading.read_group_words.Goals as goal

pub returns-clause-given : goal.returns-clause-given
returns-clause-given c =
    let is = sym c.new-words.ensures.exact ∙ c.in-Some.ensures.steps in
    let says : (slice_index c.in-Some.word.now 0 == 35) ≡ false = search rules in
    let first = ap (map (λ word. word.now)) c.as_slice.ensures.value ∙ c.first_words-words.ensures.exact in
    rw (is, says) (rw (first, six_are_enough_in_group) at c.read_change.ensures)
