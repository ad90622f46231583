use Rattle.std.proofs.Common.{Result, sym, subst}
use Rattle.camp_importer.proofs.CallLemmas.{faults, replies}
use Rattle.camp_importer.specs.Calling.{AnswersCall}
use Rattle.camp_importer.specs.declared.faults.Reason.{Reason}
use Rattle.camp_importer.proofs.executing.execute.Goals as goal

pub returns-in-Ok : goal.returns-in-Ok
returns-in-Ok c =
    subst (λ (result : Result (Unit {0}) Reason). AnswersCall c.args.call.now c.args.book.now result c.ask.new.self) (sym c.outcome_of.ensures)
    (replies c.args.seat c.args.book.now c.ask.new.self c.args.call.now c.state.result.now c.state.ensures.exact c.count-count.ensures.lawful c.in-Ok.reply c.in-Ok.ensures.asks)

pub returns-in-Err : goal.returns-in-Err
returns-in-Err c = faults c.args.seat c.args.book.now c.ask.new.self c.args.call.now c.in-Err.field-0 c.in-Err.ensures.asks
