use Rattle.std.proofs.Common.{◌+◌, drop}
use Rattle.std.proofs.lemmas.Result.{err_from_is_err_and}
use Rattle.camp_entries.proofs.BodyLemmas.{drop_at, why_not_all}
use Rattle.camp_entries.proofs.bodies.append_calls.Goals as goal

pub returns-in_err-append_noted-clause-unfit : goal.returns-in_err-append_noted-clause-unfit
returns-in_err-append_noted-clause-unfit c =
    let p = err_from_is_err_and c.from_residual.result c.from_residual.ensures.1 in
    let goes = drop_at c.args.calls.now c.loop-noted.noted-index c.noted-item.result c.loop-noted-test.true c.noted-item.is in
    rw (p.1, p.2) (why_not_all c.args.calls.now c.loop-noted.noted-index c.noted-item.result (drop (c.loop-noted.noted-index + 1) c.args.calls.now) c.in_err-append_noted.field-0.0 goes c.in_err-append_noted.ensures.unfit)
