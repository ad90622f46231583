use Rattle.std.proofs.lemmas.Result.{err_from_is_err_and}
use Rattle.camp_script.proofs.EndSteps.{end_fails}
use Rattle.camp_script.specs.Inside.ReadingFields.{open_record_of, open_edit_of}
use Rattle.camp_script.proofs.readings.Reading.end_edit.Goals as goal

pub returns-in_err-change : goal.returns-in_err-change
returns-in_err-change c =
    let p = err_from_is_err_and c.from_residual.result c.from_residual.ensures.1 in
    rw (p.1, p.2) (end_fails c.args.number c.args.self.now (open_record_of c.args.begun) (open_edit_of c.args.edit) c.in_err-change.field-0.0 c.in_err-change.ensures)
