use Rattle.std.proofs.Common.{◌≡◌, ◌≤◌, ◌⊎◌, inl, inr, false, List, ◌∷◌, length, drop, ap, subst, arith}
use Rattle.camp_object.specs.Histories.{IsAccepted}
use Rattle.camp_object.specs.Objects.{begun}
use Rattle.camp_member.specs.Members.{Membership}
use Rattle.camp_member.specs.Wanting.{IsWaiting}
use Rattle.camp_member.specs.declared.requests.Request.{Request}
use Rattle.camp_member.proofs.members.Member.next.Goals as goal

pub returns-in-Some-2 : goal.returns-in-Some-2
returns-in-Some-2 g c =
    let M = Membership g.row.State.Denot g.row.State-Call.Denot g.row.State-Reply.Denot in
    let Zero : M → Type 0 = λ m. m.sent ≡ 0 in
    let rest = drop 1 c.self.inside.waiting.items in
    let First : M → Type 0 = λ m. m.waiting ≡ c.in-Some.first.now ∷ rest in
    let List_is : List (Request g.row.State-Call.Denot) → Type 0 = λ list. list ≡ c.in-Some.first.now ∷ drop 1 list in
    let none = c.if-self-gt0.false in (
      subst Zero c.self.view_is (omega (arith, none)),
      (c.in-Some.first.now, rest, subst First c.self.view_is (subst List_is c.deref.ensures.value c.in-Some.ensures), rw c.in-Some-2.is at c.in_ok-answer.ensures.answers),
    )

pub returns-in-None : goal.returns-in-None
returns-in-None g c =
    let M = Membership g.row.State.Denot g.row.State-Call.Denot g.row.State-Reply.Denot in
    let Zero : M → Type 0 = λ m. m.sent ≡ 0 in
    let rest = drop 1 c.self.inside.waiting.items in
    let First : M → Type 0 = λ m. m.waiting ≡ c.in-Some.first.now ∷ rest in
    let List_is : List (Request g.row.State-Call.Denot) → Type 0 = λ list. list ≡ c.in-Some.first.now ∷ drop 1 list in
    let none = c.if-self-gt0.false in
    let size = ap (λ (m : M). length m.reading.history) c.self.view_is in
    let at = c.position.ensures.exact in
    let waits = c.if-first-position.true in
    let object = begun g.State.Object.object c.args.self.now.reading.first in
    let history = c.args.self.now.reading.history in
    let answer : (c.args.self.now.is_stopped ≡ false) × (IsWaiting object history c.in-Some.first.now ⊎ IsAccepted object history c.in-Some.first.now.call) = rw c.in-None.is at c.in_ok-answer.ensures.answers in (
      subst Zero c.self.view_is (omega (arith, none)),
      answer.0,
      (c.in-Some.first.now, rest, subst First c.self.view_is (subst List_is c.deref.ensures.value c.in-Some.ensures), omega (arith, size, at, waits)),
    )

pub returns-in-None-2 : goal.returns-in-None-2
returns-in-None-2 g c =
    let M = Membership g.row.State.Denot g.row.State-Call.Denot g.row.State-Reply.Denot in
    let Zero : M → Type 0 = λ m. m.sent ≡ 0 in
    let rest = drop 1 c.self.inside.waiting.items in
    let First : M → Type 0 = λ m. m.waiting ≡ c.in-Some.first.now ∷ rest in
    let List_is : List (Request g.row.State-Call.Denot) → Type 0 = λ list. list ≡ c.in-Some.first.now ∷ drop 1 list in
    let none = c.if-self-gt0.false in
    let size = ap (λ (m : M). length m.reading.history) c.self.view_is in
    let at = c.position.ensures.exact in
    let over = c.if-first-position.false in
    let object = begun g.State.Object.object c.args.self.now.reading.first in
    let history = c.args.self.now.reading.history in
    let request = c.in-Some.first.now in
    let answer : (c.args.self.now.is_stopped ≡ false) × (IsWaiting object history request ⊎ IsAccepted object history request.call) = rw c.in-None.is at c.in_ok-answer.ensures.answers in
    let ready : request.at_least ≤ length history = omega (arith, size, at, over) in
    let accepted : IsAccepted object history request.call =
    elim answer.1 as (λ _. IsAccepted object history request.call) [
      | inl waits ↦ absurd (omega (arith, waits, ready))
      | inr accepted ↦ accepted
    ]
    in (
      subst Zero c.self.view_is (omega (arith, none)),
      answer.0,
      (request, rest, subst First c.self.view_is (subst List_is c.deref.ensures.value c.in-Some.ensures), ready, accepted, c.in_ok-answer.ensures.writes c.in-None.is ready),
    )
