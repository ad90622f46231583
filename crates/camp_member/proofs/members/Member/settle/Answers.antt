use Rattle.std.proofs.Common.{sym, ◌∙◌, ap, subst, arith}
use Rattle.camp_object.specs.Histories.{IsLegal}
use Rattle.camp_object.specs.Objects.{IsFirst, begun}
use Rattle.camp_object.proofs.Replays.{begun_lawful}
use Rattle.camp_member.specs.Inside.Settling.{AnswersFirst}
use Rattle.camp_member.specs.Members.{Membership}
use Rattle.camp_member.specs.Readings.{Reading}
use Rattle.camp_member.specs.Wanting.{IsAtRest, IsStopped}
use Rattle.camp_member.proofs.Settling.{answers_goes, answers_no_rest, goes_through, stopped_since}
use Rattle.camp_member.proofs.members.Member.settle.Goals as goal

pub loop-preserved : goal.loop-preserved
loop-preserved g c =
    let M = Membership g.row.State.Denot g.row.State-Call.Denot g.row.State-Reply.Denot in
    let object = g.State.Object.object in
    let start : M = c.args.self.now in
    let first = start.reading.first in
    let old : M = c.loop.self in
    let new : M = c.give_first.new.self in
    let past = c.loop.invariant in
    let R : Reading g.row.State.Denot g.row.State-Call.Denot → Type 0 = λ r. AnswersFirst (begun object r.first) old new in
    let step : AnswersFirst (begun object first) old new = subst R past.reading c.in_ok-give_first-in-Answers.ensures.answers in
    let First : M → Type 0 = λ m. IsFirst object m.reading.first in
    let Legal : M → Type 0 = λ m. IsLegal (begun object m.reading.first) m.reading.history in
    let LegalNow : Reading g.row.State.Denot g.row.State-Call.Denot → Type 0 = λ r. IsLegal (begun object first) r.history in
    let legal = subst LegalNow (sym past.reading) (subst Legal c.self.view_is c.position-position.ensures.legal) in
    let lawful = begun_lawful object g.met.State.Object.lawful first (subst First c.self.view_is c.position-position.ensures.first) in
    record {
      rests = λ rest. absurd (answers_no_rest (begun object first) old new (subst (λ (m : M). IsAtRest (begun object first) m) (sym (past.rests rest)) rest) step);
      stays = λ some. let none = step.none_sent in let same = ap (λ (m : M). m.sent) (past.stays some) in absurd (omega (arith, some, none, same));
      reading = step.reading ∙ past.reading;
      is_stopped = step.is_stopped ∙ past.is_stopped;
      sent = step.sent ∙ past.sent;
      goes = goes_through (begun object first) (IsStopped (begun object first) start) start old new legal past.goes
          (answers_goes (begun object first) lawful (IsStopped (begun object first) start) old new legal (stopped_since (begun object first) start old past.reading past.is_stopped) step);
    }

pub returns-in_err-give_first-in-Answers-clause-rests : goal.returns-in_err-give_first-in-Answers-clause-rests
returns-in_err-give_first-in-Answers-clause-rests g c = λ rest. c.in_err-give_first-in-Answers.ensures.stays ∙ c.loop.invariant.rests rest
