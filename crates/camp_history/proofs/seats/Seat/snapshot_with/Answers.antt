use Rattle.camp_history.proofs.Words.{◌≡◌, ◌++◌, ◌∷◌, [], map, ap, ◌∙◌, replay, seat_and_call, map_push, made_of, IfOk-weaker, subst, begun, IsFirst}
use Rattle.camp_history.proofs.Seeing.{marks_with, next_replays}
use Rattle.camp_history.proofs.seats.Seat.snapshot_with.Given.{Over}
use Rattle.camp_history.proofs.seats.Seat.snapshot_with.Goals.{In_ok-push}
use Rattle.camp_history.proofs.seats.Seat.snapshot_with.Goals as goal

-- the marks of the snapshot
whole : (g : Over) (c : In_ok-push g) → c.self.inside.earlier ++ c.push.new.self.items ≡ made_of c.args.self.now c.args.call.now
whole g c =
    let tail = ap (λ list. list ++ record { seat = c.number.result; call = c.again.result } ∷ []) (c.in_ok-tail.ensures ∙ c.deref.ensures.value) in
    marks_with c.args.self.now c.self.inside.earlier c.self.inside.tail.items c.push.new.self.items (record { seat = c.number.result; call = c.again.result }) c.args.call.now
    (ap (λ seat. seat.marks) c.self.view_is) (c.in_ok-push.ensures.items ∙ tail) (c.number.ensures.number ∙ ap (λ seat. seat.known.number) c.self.view_is) c.again.ensures

pub made_from-requires-clause-replays : goal.made_from-requires-clause-replays
made_from-requires-clause-replays g c =
    let asks = map_push seat_and_call c.args.self.now.marks (record { seat = c.args.self.now.known.number; call = c.args.call.now }) in
    let object = g.State.Object.object in
    let first = c.args.self.now.first in
    let is : IsFirst object first = subst (IsFirst object) (ap (λ seat. seat.first) c.self.view_is) c.self.invariant.is_first in
    next_replays object g.met.State.Object.lawful first is (map seat_and_call (c.self.inside.earlier ++ c.push.new.self.items)) c.args.next.now
    (ap (λ marks. replay (begun object first) (map seat_and_call marks)) (whole g (goal.at.made_from-requires-clause-replays g c).In_ok-push) ∙ ap (replay (begun object first)) asks ∙ c.requires)

pub returns : goal.returns
returns g c = IfOk-weaker c.made_from.result _ _ (λ snapshot same. same ∙ whole g (goal.at.returns g c).In_ok-push) c.made_from.ensures
