use Rattle.camp_history.proofs.Words.{Ok, Err, history_of, subst, begun, Ask, caller_at}
use Rattle.camp_history.proofs.AskLemmas.{ask_later}
use Rattle.camp_history.proofs.heads.Head.ask_question.Goals as goal

pub returns-in-Ok-Answer-clause-asks : goal.returns-in-Ok-Answer-clause-asks
returns-in-Ok-Answer-clause-asks g c =
    let object = g.State.Object.object in
    let head = c.args.self.now in
    let seat = c.catch_up.new.seat in
    let call = c.args.call.now in
    let asks : Ask (begun object seat.first) (caller_at head seat) (history_of seat) call (Ok c.in-Ok-Answer.reply) (history_of seat) = rw c.in-Ok-Answer.field-0-is at c.in-Ok-Answer.ensures in
    ask_later (begun object head.first) head c.args.seat.now seat c.in_ok-catch_up.ensures.more call (Ok c.in-Ok-Answer.reply) (history_of seat)
    (subst (λ (first : g.row.State.Denot). Ask (begun object first) (caller_at head seat) (history_of seat) call (Ok c.in-Ok-Answer.reply) (history_of seat)) c.in_ok-catch_up.ensures.of.first asks)

pub returns-in-Err-clause-asks : goal.returns-in-Err-clause-asks
returns-in-Err-clause-asks g c =
    let object = g.State.Object.object in
    let head = c.args.self.now in
    let seat = c.catch_up.new.seat in
    let call = c.args.call.now in
    ask_later (begun object head.first) head c.args.seat.now seat c.in_ok-catch_up.ensures.more call (Err c.in-Err.fault) (history_of seat)
    (subst (λ (first : g.row.State.Denot). Ask (begun object first) (caller_at head seat) (history_of seat) call (Err c.in-Err.fault) (history_of seat)) c.in_ok-catch_up.ensures.of.first c.in-Err.ensures)
