use Rattle.std.proofs.Common.{◌≡◌, ◌<◌, sym, ap, subst, ◌∙◌, arith}
use Rattle.camp_object.specs.Objects.{begun}
use Rattle.camp_member.specs.Inside.Settling.{IsRest}
use Rattle.camp_member.specs.Members.{Membership}
use Rattle.camp_member.specs.Wanting.{IsNeeded}
use Rattle.camp_member.specs.declared.requests.Want.{Want}
use Rattle.camp_member.specs.declared.wanting.Rest.TheVariants.{Sends}
use Rattle.camp_member.proofs.Settling.{all_so, needed_so}
use Rattle.camp_member.proofs.members.Member.want.Goals as goal

pub returns-in-Sends-clause-needed : goal.returns-in-Sends-clause-needed
returns-in-Sends-clause-needed g c =
    let M = Membership g.row.State.Denot g.row.State-Call.Denot g.row.State-Reply.Denot in
    let object = begun g.State.Object.object c.self.inside.reader.first in
    let inside = c.self.inside in
    let member : M = record { seat = inside.seat; reading = inside.reader; is_stopped = inside.is_stopped; waiting = inside.waiting.items; sent = inside.sent; answers = inside.answers.items } in
    let R : M → Type 0 = λ m. IsRest (begun g.State.Object.object m.reading.first) m Sends in
    let rest : IsRest object member Sends = subst R (sym c.self.view_is) (rw c.in-Sends.is at c.in_ok-settle.ensures.rest) in
    let P : Want g.row.State-Call.Denot → Type 0 = λ want. c.args.self.now.sent ≡ 0 → IsNeeded object want (record member { sent = c.batch-self-inside.result }) in
    all_so object {P = P} (λ want none. needed_so object member c.batch-self-inside.result rest want) c.append.result

pub returns-in-UnderWay-clause-needed : goal.returns-in-UnderWay-clause-needed
returns-in-UnderWay-clause-needed g c =
    let object = begun g.State.Object.object c.settle.new.self.reading.first in
    let some : 0 < c.settle.new.self.sent = rw c.in-UnderWay.is at c.in_ok-settle.ensures.rest in
    let same = c.settle.ensures.sent in
    let P : Want g.row.State-Call.Denot → Type 0 = λ want. c.args.self.now.sent ≡ 0 → IsNeeded object want c.settle.new.self in
    all_so object {P = P} (λ want none. absurd (omega (arith, some, same, none))) c.append-in-UnderWay.result

pub returns-in_err-settle-clause-rests : goal.returns-in_err-settle-clause-rests
returns-in_err-settle-clause-rests g c = λ rest. ap (λ (m : Membership g.row.State.Denot g.row.State-Call.Denot g.row.State-Reply.Denot). m.waiting) (c.settle.ensures.rests rest)

pub returns-in-Nothing-clause-rests : goal.returns-in-Nothing-clause-rests
returns-in-Nothing-clause-rests g c = λ rest. ap (λ (m : Membership g.row.State.Denot g.row.State-Call.Denot g.row.State-Reply.Denot). m.waiting) (c.settle.ensures.rests rest)

pub returns-in-Waits-clause-rests : goal.returns-in-Waits-clause-rests
returns-in-Waits-clause-rests g c = λ rest. ap (λ (m : Membership g.row.State.Denot g.row.State-Call.Denot g.row.State-Reply.Denot). m.waiting) (c.settle.ensures.rests rest)

pub returns-in-Sends-clause-rests : goal.returns-in-Sends-clause-rests
returns-in-Sends-clause-rests g c = λ rest. ap (λ (m : Membership g.row.State.Denot g.row.State-Call.Denot g.row.State-Reply.Denot). m.waiting) (c.self.view_is ∙ c.settle.ensures.rests rest)
