use Rattle.camp_script.proofs.Common.{sym, ◌∙◌}
use Rattle.camp_script.proofs.readings.Reading.read_line.Goals as goal

pub returns-in-Some-clause-given : goal.returns-in-Some-clause-given
returns-in-Some-clause-given c =
    let some = sym c.take.ensures.value ∙ c.in-Some.is in
    rw (← c.self.view_is, some) c.read_record_line.ensures.given
