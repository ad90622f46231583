use Rattle.camp_talk.proofs.Words.{refl, true, subst, arith, rules, Bool, ReadsCommand, SessionState, written, ◌≡◌}
use Rattle.camp_talk.proofs.Firsts.{command_long}
use Rattle.camp_talk.proofs.RequestLemmas.{halts, not_executed}
use Rattle.camp_talk.proofs.StepLemmas.{answered}
use Rattle.camp_talk.proofs.requests.append_step.Goals as goal

pub returns-in-Err-clause-appends : goal.returns-in-Err-clause-appends
returns-in-Err-clause-appends g c =
    let before : SessionState = record { history = c.args.book.now; lines = c.args.lines.now; diagnostic = c.args.diagnostic.now } in
    record {
      none = not_executed _ _ c.args.answer.now.items c.args.answer.now.items before c.in-Err.why c.in-Err.ensures.none;
      kept = refl;
      same = c.in-Err.ensures.same.0;
    }

pub returns-in_err-append_response-clause-appends : goal.returns-in_err-append_response-clause-appends
returns-in_err-append_response-clause-appends g c =
    let executed = c.in-Ok.executed in
    let before : SessionState = record { history = c.args.book.now; lines = c.args.lines.now; diagnostic = c.args.diagnostic.now } in
    let reached : SessionState = record { history = c.execute_next.new.book; lines = executed.lines; diagnostic = c.execute_next.new.diagnostic } in
    let after : SessionState = record { history = c.execute_next.new.book; lines = c.args.lines.now; diagnostic = c.execute_next.new.diagnostic } in
    let stops = halts _ _ c.args.answer.now.items c.append_response.new.answer.items before executed.is_whole reached after refl c.in_err-append_response.ensures.0
    executed.response c.in_err-append_response.field-0.0 c.in-Ok.ensures.executes_next c.in_err-append_response.ensures.1 in
    search (rules, stops)

pub returns-clause-counts : goal.returns-clause-counts
returns-clause-counts g c =
    let executed = c.in-Ok.executed in
    let executes_next = c.in-Ok.ensures.executes_next in
    λ (more : executed.is_whole ≡ true).
    let reads = subst (λ (w : Bool). ReadsCommand (g.R.Read.remaining c.args.reader.now) (g.R.Read.remaining c.execute_next.new.reader) w executes_next.command) more executes_next.reads in
    record { rises = omega (arith, executes_next.counts, command_long executes_next.command reads.1); counted = search rules }

pub returns-clause-appends : goal.returns-clause-appends
returns-clause-appends g c =
    let executed = c.in-Ok.executed in
    let executes_next = c.in-Ok.ensures.executes_next in
    record {
      exchange = record { command = executes_next.command; answer = written executed.response };
      reads = executes_next.reads;
      answers = answered _ _ executes_next.command executed.response executes_next.says executes_next.counts;
      writes = c.in_ok-append_response.ensures;
    }
