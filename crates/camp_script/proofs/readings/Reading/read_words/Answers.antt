use Rattle.camp_script.proofs.Common.{◌≡◌, false, ◌==◌, slice_index, sym, ◌∙◌, rules}
use Rattle.camp_script.proofs.readings.Reading.read_words.Goals as goal

pub returns-clause-given : goal.returns-clause-given
returns-clause-given c =
    let is = sym c.new-words.ensures.exact ∙ c.in-Some.ensures.steps in
    let says : (slice_index c.in-Some.word.now 0 == 35) ≡ false = search rules in
    rw (is, says) c.read_command.ensures
