use Rattle.camp_talk.proofs.Words.{refl, sym, subst, arith, rules}
use Rattle.camp_talk.proofs.LineCounts.{request_unanswered}
use Rattle.camp_talk.proofs.RequestLemmas.{begins_executing, executes_all, executes_on, request_answered, request_loses, request_stops}
use Rattle.camp_talk.specs.Requests.{IsUnanswered}
use Rattle.camp_talk.proofs.requests.answer_commands.Goals as goal

pub loop-executed-init : goal.loop-executed-init
loop-executed-init c = rw c.requires (begins_executing c.args.book.now c.args.request.now c.args.answer.now.items)

pub loop-executed-preserved : goal.loop-executed-preserved
loop-executed-preserved c =
    let appends = rw c.in-Ok-true.field-0-test at c.in-Ok-true.ensures.appends in
    executes_on c.args.book.now c.args.request.now _ _ _ _ _ _ _ _ _ (omega arith) c.loop-executed.invariant (search rules) appends

pub returns-in-Ok-false-clause-answers : goal.returns-in-Ok-false-clause-answers
returns-in-Ok-false-clause-answers c =
    let appends = rw c.in-Ok-false.field-0-test at c.in-Ok-false.ensures.appends in
    request_answered c.args.book.now _ _ _ _ _ _ _ _ _ c.loop-executed.invariant appends

pub returns-in-Ok-false-clause-all_executed : goal.returns-in-Ok-false-clause-all_executed
returns-in-Ok-false-clause-all_executed c =
    let appends = rw c.in-Ok-false.field-0-test at c.in-Ok-false.ensures.appends in
    executes_all c.args.book.now c.args.request.now _ _ _ _ _ _ _ _ _ (omega arith) c.loop-executed.invariant (search rules) appends

pub returns-in-Err-Before-clause-some_executed : goal.returns-in-Err-Before-clause-some_executed
returns-in-Err-Before-clause-some_executed c =
    let appends = rw c.in-Err-Before.field-0-is at c.in-Err-Before.ensures.appends in
    request_stops c.args.book.now _ _ _ _ _ _ _ _ _ c.in-Err-Before.why c.loop-executed.invariant appends

pub returns-in-Err-Before-clause-unanswered : goal.returns-in-Err-Before-clause-unanswered
returns-in-Err-Before-clause-unanswered c =
    let appends = rw c.in-Err-Before.field-0-is at c.in-Err-Before.ensures.appends in
    let is = request_unanswered _ _ _ _ _ _ _ _ _ refl c.in-Err-Before.why (omega arith) c.loop-executed.invariant.holds appends in
    subst IsUnanswered (sym c.in-Err-Before.why-is) is

pub returns-in-Err-After-clause-some_executed : goal.returns-in-Err-After-clause-some_executed
returns-in-Err-After-clause-some_executed c =
    let appends = rw c.in-Err-After.field-0-is at c.in-Err-After.ensures.appends in
    request_loses c.args.book.now c.args.request.now _ _ _ _ _ _ _ _ _ (omega arith) c.loop-executed.invariant (search rules) appends
