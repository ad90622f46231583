use Rattle.camp_run.proofs.Words.{IsSerial}
use Rattle.camp_run.proofs.Written.{written}
use Rattle.camp_run.proofs.books.run_book.Goals as goal

pub returns-clause-runs : goal.returns-clause-runs
returns-clause-runs g c =
    written (IsSerial c.args.limits) c.args.history _ _ _ _ c.in_ok-script.script c.in_ok-text.text.items c.deref.result.now c.write_output.result
    c.in_ok-script.ensures.script c.in_ok-text.ensures c.deref.ensures.value c.write_output.ensures
