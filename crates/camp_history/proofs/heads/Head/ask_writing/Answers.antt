use Rattle.camp_history.proofs.Words.{◌≡◌, Some, Ok, Err, ap, ◌∙◌, own, history_of, SeesMore, LosesOne, Attempts, arith, common_steps, subst, begun}
use Rattle.camp_history.proofs.AskLemmas.{ask_later, finds_sees, loses_again, sees_more_more}
use Rattle.camp_history.proofs.heads.Head.ask_writing.Goals as goal

pub returns-in-Ok-Some-clause-asks : goal.returns-in-Ok-Some-clause-asks
returns-in-Ok-Some-clause-asks g c =
    let object = begun g.State.Object.object c.args.self.now.first in
    let old = c.loop-lost.seat in
    let new = c.attempt.new.seat in
    let asks : Attempts (begun g.State.Object.object old.first) c.args.self.now old c.args.call.now.value (Ok (Some c.in-Ok-Some.reply)) new = rw c.in-Ok-Some.field-0-is at c.in-Ok-Some.ensures.attempts in
    ask_later object c.args.self.now c.args.seat.now old c.loop-lost.invariant.more c.args.call.now.value (Ok c.in-Ok-Some.reply) (history_of new)
    (subst (λ (first : g.row.State.Denot). Attempts (begun g.State.Object.object first) c.args.self.now old c.args.call.now.value (Ok (Some c.in-Ok-Some.reply)) new) c.loop-lost.invariant.of.first asks)

pub returns-in-Err-clause-asks : goal.returns-in-Err-clause-asks
returns-in-Err-clause-asks g c =
    let old = c.loop-lost.seat in
    let new = c.attempt.new.seat in
    ask_later (begun g.State.Object.object c.args.self.now.first) c.args.self.now c.args.seat.now old c.loop-lost.invariant.more c.args.call.now.value (Err c.in-Err.fault) (history_of new)
    (subst (λ (first : g.row.State.Denot). Attempts (begun g.State.Object.object first) c.args.self.now old c.args.call.now.value (Err c.in-Err.fault) new) c.loop-lost.invariant.of.first c.in-Err.ensures.attempts)

pub loop-lost-preserved : goal.loop-lost-preserved
loop-lost-preserved g c =
    let head = c.args.self.now in
    let object = begun g.State.Object.object head.first in
    let start = c.args.seat.now in
    let old = c.loop-lost.seat in
    let lost = c.attempt.new.seat in
    let new = c.see_chain.new.seat in
    let past = c.loop-lost.invariant in
    let lost_one : LosesOne (begun g.State.Object.object old.first) head old c.args.call.now.value lost = rw c.in-Ok-None.field-0-is at c.in-Ok-None.ensures.attempts in
    let one : LosesOne object head old c.args.call.now.value lost = subst (λ (first : g.row.State.Denot). LosesOne (begun g.State.Object.object first) head old c.args.call.now.value lost) past.of.first lost_one in
    let follows = c.in_ok-see_chain-in-Ok-None.ensures in
    let more : SeesMore start new = sees_more_more past.more (sees_more_more (finds_sees one.finds) follows.sees_further.more) in
    let mine : own old.known.number (history_of old) ≡ own start.known.number (history_of start) =
    ap (λ number. own number (history_of old)) past.more.number ∙ past.more.own_stays
    in
    record {
      of = follows.sees_further.of;
      more = more;
      legal = follows.legal;
      loses = loses_again object head c.args.call.now.value c.loop-lost.lost start old lost new past.loses one follows.sees_further.more (follows.whole ∙ follows.sees_further.ahead);
      room = λ _. rw (← mine) one.has_room;
    }

pub returns-in_err-catch_up-clause-asks : goal.returns-in_err-catch_up-clause-asks
returns-in_err-catch_up-clause-asks g c = grind (arith, common_steps)

pub loop-lost-init : goal.loop-lost-init
loop-lost-init g c = grind (arith, common_steps)

pub returns-in_err-see_chain-in-Ok-None-clause-asks : goal.returns-in_err-see_chain-in-Ok-None-clause-asks
returns-in_err-see_chain-in-Ok-None-clause-asks g c = grind (arith, common_steps)

pub returns-clause-asks : goal.returns-clause-asks
returns-clause-asks g c = grind (arith, common_steps)
