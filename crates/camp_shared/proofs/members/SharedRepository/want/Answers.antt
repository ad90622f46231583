use Rattle.std.proofs.Common.{◌≡◌, List, refl, sym, ap, subst, ◌∙◌}
use Rattle.std.specs.List.{AllByRecursion}
use Rattle.camp_call.specs.declared.calls.Call.{Call}
use Rattle.camp_member.specs.Notes.{WithNote}
use Rattle.camp_member.specs.Readings.{Reading}
use Rattle.camp_member.specs.Telling.{MemberAdvances}
use Rattle.camp_member.specs.Wanting.{IsStopped}
use Rattle.camp_member.specs.declared.requests.Request.{Request}
use Rattle.camp_member.specs.declared.requests.Want.TheVariants as want
use Rattle.camp_object.specs.Histories.{IsLegal}
use Rattle.camp_repo.specs.States.{Contents}
use Rattle.camp_shared.specs.Inside.{AreFitting, CanBeAsked}
use Rattle.camp_shared.specs.Sharing.{Sharing, shared_from}
use Rattle.camp_shared.proofs.WantLemmas.{entry_noted, entry_short, goes_on, room_ready, room_wanted, wants_so}
use Rattle.camp_shared.proofs.members.SharedRepository.want.Goals.{in-Append, in-Nothing, in-Read}
use Rattle.camp_shared.proofs.members.SharedRepository.want.Goals as goal

pub invariant_of-self : goal.invariant_of-self
invariant_of-self c = room_ready c.self.inside.member c.answer_ready.new.self c.self.invariant c.answer_ready.ensures.goes c.answer_ready.ensures.stays c.answer_ready.ensures.sent c.answer_ready.ensures.reading

pub fitting-requires : goal.fitting-requires
fitting-requires c =
    let room = room_ready c.self.inside.member c.answer_ready.new.self c.self.invariant c.answer_ready.ensures.goes c.answer_ready.ensures.stays c.answer_ready.ensures.sent c.answer_ready.ensures.reading in
    subst (λ (list : List (Request (WithNote Call))). AllByRecursion CanBeAsked list) (sym c.waiting.ensures.exact) room.each

pub invariant_of-self-in_err-most : goal.invariant_of-self-in_err-most
invariant_of-self-in_err-most c = room_ready c.self.inside.member c.answer_ready.new.self c.self.invariant c.answer_ready.ensures.goes c.answer_ready.ensures.stays c.answer_ready.ensures.sent c.answer_ready.ensures.reading

pub invariant_of-self-in_err-want : goal.invariant_of-self-in_err-want
invariant_of-self-in_err-want c =
    let mid = c.answer_ready.new.self in
    let room = room_ready c.self.inside.member mid c.self.invariant c.answer_ready.ensures.goes c.answer_ready.ensures.stays c.answer_ready.ensures.sent c.answer_ready.ensures.reading in
    let fits = subst (λ (list : List (Request (WithNote Call))). AreFitting list c.in_ok-most.most) c.waiting.ensures.exact c.in_ok-most.ensures in
    let then = room_wanted mid c.want.new.self c.in_ok-most.most room c.want.ensures.stays (c.want.ensures.rests c.in_ok-answer_ready.ensures.rests) c.want.ensures.few fits c.want.ensures.reading in
    then

pub invariant_of-self-2 : goal.invariant_of-self-2
invariant_of-self-2 c =
    let mid = c.answer_ready.new.self in
    let room = room_ready c.self.inside.member mid c.self.invariant c.answer_ready.ensures.goes c.answer_ready.ensures.stays c.answer_ready.ensures.sent c.answer_ready.ensures.reading in
    let fits = subst (λ (list : List (Request (WithNote Call))). AreFitting list c.in_ok-most.most) c.waiting.ensures.exact c.in_ok-most.ensures in
    let then = room_wanted mid c.want.new.self c.in_ok-most.most room c.want.ensures.stays (c.want.ensures.rests c.in_ok-answer_ready.ensures.rests) c.want.ensures.few fits c.want.ensures.reading in
    then

pub returns-in_err-want-clause-goes : goal.returns-in_err-want-clause-goes
returns-in_err-want-clause-goes c =
    let P : Sharing → Type 0 = λ m. MemberAdvances (shared_from m.reading.first) (IsStopped (shared_from m.reading.first) m) m c.want.new.self in
    let L : Reading Contents (WithNote Call) → Type 0 = λ r. IsLegal (shared_from r.first) r.history in
    subst P c.self.view_is (goes_on c.self.inside.member c.answer_ready.new.self c.want.new.self (subst L c.reader.ensures.exact c.position-position.ensures.legal) c.answer_ready.ensures.reading c.answer_ready.ensures.is_stopped c.answer_ready.ensures.goes c.want.ensures.goes)

pub returns-clause-goes : goal.returns-clause-goes
returns-clause-goes c =
    let P : Sharing → Type 0 = λ m. MemberAdvances (shared_from m.reading.first) (IsStopped (shared_from m.reading.first) m) m c.want.new.self in
    let L : Reading Contents (WithNote Call) → Type 0 = λ r. IsLegal (shared_from r.first) r.history in
    subst P c.self.view_is (goes_on c.self.inside.member c.answer_ready.new.self c.want.new.self (subst L c.reader.ensures.exact c.position-position.ensures.legal) c.answer_ready.ensures.reading c.answer_ready.ensures.is_stopped c.answer_ready.ensures.goes c.want.ensures.goes)

pub render-requires-clause-noted : goal.render-requires-clause-noted
render-requires-clause-noted c =
    let mid = c.answer_ready.new.self in
    let room = room_ready c.self.inside.member mid c.self.invariant c.answer_ready.ensures.goes c.answer_ready.ensures.stays c.answer_ready.ensures.sent c.answer_ready.ensures.reading in
    let fits = subst (λ (list : List (Request (WithNote Call))). AreFitting list c.in_ok-most.most) c.waiting.ensures.exact c.in_ok-most.ensures in
    let then = room_wanted mid c.want.new.self c.in_ok-most.most room c.want.ensures.stays (c.want.ensures.rests c.in_ok-answer_ready.ensures.rests) c.want.ensures.few fits c.want.ensures.reading in
    entry_noted c.want.new.self c.in-Append.entry then (rw c.in-Append.is at c.in_ok-want.ensures.wants)

pub render-requires-clause-short : goal.render-requires-clause-short
render-requires-clause-short c =
    let mid = c.answer_ready.new.self in
    let room = room_ready c.self.inside.member mid c.self.invariant c.answer_ready.ensures.goes c.answer_ready.ensures.stays c.answer_ready.ensures.sent c.answer_ready.ensures.reading in
    let fits = subst (λ (list : List (Request (WithNote Call))). AreFitting list c.in_ok-most.most) c.waiting.ensures.exact c.in_ok-most.ensures in
    let then = room_wanted mid c.want.new.self c.in_ok-most.most room c.want.ensures.stays (c.want.ensures.rests c.in_ok-answer_ready.ensures.rests) c.want.ensures.few fits c.want.ensures.reading in
    entry_short c.want.new.self c.in-Append.entry then (rw c.in-Append.is at c.in_ok-want.ensures.wants)

pub returns-clause-wants : goal.returns-clause-wants
returns-clause-wants c =
    let sent : c.args.self.now.sent ≡ 0 → c.answer_ready.new.self.sent ≡ 0 = λ none. c.answer_ready.ensures.sent ∙ ap (λ (m : Sharing). m.sent) c.self.view_is ∙ none in
    let wants = c.in_ok-want.ensures.wants in
    let needed = c.in_ok-want.ensures.needed in
    elim c.match-branch-4.branch [
      | in-Nothing w ↦ rw w.result-is (record { what = want.Nothing; renders = tt; wants = rw w.in-Nothing.is at wants; needed = λ none. tt })
      | in-Read w ↦ rw w.result-is (record { what = want.Read w.in-Read.from; renders = refl; wants = rw w.in-Read.is at wants; needed = λ none. tt })
      | in-Append w ↦ rw w.result-is (wants_so c.args.self.now c.want.new.self (want.Append w.in-Append.entry) w.render.result w.render.ensures (rw w.in-Append.is at wants) (λ none. (rw w.in-Append.is at needed) (sent none)))
    ]
