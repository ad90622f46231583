use Rattle.camp_history.proofs.Words.{◌≡◌, ◌<◌, List, Ok, length, map, ap, refl, sym, ◌∙◌, subst, own, Next, Ask, seat_and_call, history_of, caller_at, Mark, DecidesAt, HeadDecision, Publishes, begun, begun_lawful}
use Rattle.camp_history.proofs.AskLemmas.{decided_next, decided_accepted, ask_published, seat_published, attempts_nothing}
use Rattle.camp_history.proofs.heads.Head.attempt.Given.{Over}
use Rattle.camp_history.proofs.heads.Head.attempt.Goals.{In-Next}
use Rattle.camp_history.proofs.heads.Head.attempt.Goals as goal

-- there is room for the call, and it was accepted
decided : (g : Over) (c : In-Next g) → (length (own c.args.seat.now.known.number (history_of c.args.seat.now)) < c.args.self.now.row.per_seat) × DecidesAt (begun g.State.Object.object c.args.seat.now.first) (history_of c.args.seat.now) c.args.call.now.value (Next c.in-Next.state)
decided g c =
    let ready : HeadDecision (begun g.State.Object.object c.args.seat.now.first) c.args.self.now c.args.seat.now c.value.result.now (Ok (Next c.in-Next.state)) = rw c.in-Next.is at c.in_ok-reply.ensures in
    rw c.value.ensures at ready

pub snapshot_for-requires : goal.snapshot_for-requires
snapshot_for-requires g c =
    decided_next (begun g.State.Object.object c.args.seat.now.first) (history_of c.args.seat.now) c.args.seat.now.known.number c.args.call.now.value c.in-Next.state (decided g (goal.at.snapshot_for-requires g c).In-Next).1

pub publish-requires-clause-room : goal.publish-requires-clause-room
publish-requires-clause-room g c = rw (ap (λ head. head.row.per_seat) c.self.view_is) (decided g (goal.at.publish-requires-clause-room g c).In-Next).0

pub publish-requires-clause-next : goal.publish-requires-clause-next
publish-requires-clause-next g c =
    decided_next (begun g.State.Object.object c.args.seat.now.first) (history_of c.args.seat.now) c.args.seat.now.known.number c.args.call.now.value c.in-Next.state (decided g (goal.at.publish-requires-clause-next g c).In-Next).1

pub returns-in_err-publish-clause-attempts : goal.returns-in_err-publish-clause-attempts
returns-in_err-publish-clause-attempts g c =
    attempts_nothing (begun g.State.Object.object c.args.seat.now.first) c.args.self.now c.args.seat.now c.publish.new.self c.args.call.now.value c.from_residual-in_err-publish.result
    (rw c.in_err-publish.ensures.0 at c.from_residual-in_err-publish.ensures.1) c.show_invariant.ensures.legal c.in_err-publish.ensures.1

pub returns-in_err-made-clause-attempts : goal.returns-in_err-made-clause-attempts
returns-in_err-made-clause-attempts g c =
    attempts_nothing (begun g.State.Object.object c.args.seat.now.first) c.args.self.now c.args.seat.now c.args.seat.now c.args.call.now.value c.from_residual-in_err-made.result c.from_residual-in_err-made.ensures.1 c.show_invariant.ensures.legal refl

pub returns-then-not-branch-clause-attempts : goal.returns-then-not-branch-clause-attempts
returns-then-not-branch-clause-attempts g c =
    let ready = decided g (goal.at.returns-then-not-branch-clause-attempts g c).In-Next in
    record { has_room = ready.0; accepted = decided_accepted (begun g.State.Object.object c.args.seat.now.first) (history_of c.args.seat.now) c.args.call.now.value c.in-Next.state ready.1; finds = rw c.if-not-branch.true at c.in_ok-publish.ensures }

pub store_made-requires-clause-seat : goal.store_made-requires-clause-seat
store_made-requires-clause-seat g c =
    let publishes : Publishes c.args.seat.now c.args.call.now c.publish.new.self = rw c.if-not-branch.false at c.in_ok-publish.ensures in
    seat_published c.args.self.now c.args.seat.now c.publish.new.self c.args.call.now c.requires.seat c.requires.call publishes

pub store_made-requires-clause-made : goal.store_made-requires-clause-made
store_made-requires-clause-made g c =
    let publishes : Publishes c.args.seat.now c.args.call.now c.publish.new.self = rw c.if-not-branch.false at c.in_ok-publish.ensures in
    rw publishes.marks c.in_ok-made.ensures

pub returns-clause-attempts : goal.returns-clause-attempts
returns-clause-attempts g c =
    let ready = decided g (goal.at.returns-clause-attempts g c).In-Next in
    let publishes : Publishes c.args.seat.now c.args.call.now c.publish.new.self = rw c.if-not-branch.false at c.in_ok-publish.ensures in
    let marks : c.store_made.new.seat.marks ≡ c.publish.new.self.marks = c.store_made.ensures.marks in
    let position : c.position.result ≡ length (history_of c.publish.new.self) = c.position.ensures.exact ∙ ap (λ marks. length (map seat_and_call marks)) marks in
    let Asks : List (Mark g.row.State-Call.Denot) → Type 0 = λ marks. Ask (begun g.State.Object.object c.args.seat.now.first) (caller_at c.args.self.now c.args.seat.now) (history_of c.args.seat.now) c.args.call.now.value (Ok c.done.result) (map seat_and_call marks) in
    subst Asks (sym marks) (
    ask_published (begun g.State.Object.object c.args.seat.now.first) (begun_lawful g.State.Object.object g.met.State.Object.lawful c.args.seat.now.first c.show_invariant.ensures.first) c.args.self.now c.args.seat.now c.publish.new.self c.args.call.now c.position.result c.done.result
    (decided_accepted (begun g.State.Object.object c.args.seat.now.first) (history_of c.args.seat.now) c.args.call.now.value c.in-Next.state ready.1) ready.0 publishes position c.done.ensures
    )
