use Rattle.camp_history.proofs.Words.{◌≡◌, Some, [], ◌<◌, ◌∷◌, ◌++◌, length, refl, sym, ◌∙◌, ap, replay, own, entry_count, PassState, Won, drafted, with_draft, bases_in, marks_in, history_of, entry_of, Mark, begun, IsFirst, map, seat_and_call, subst, Publishes, SeatState, seat_state}
use Rattle.camp_history.proofs.Seeing.{entries_more, history_more, begins_more, all_more, bases_begin, length-own, one_more, begins_same, next_first, next_replays}
use Rattle.camp_history.proofs.seats.Seat.publish.Given.{Over}
use Rattle.camp_history.proofs.seats.Seat.publish.Goals.{After-drop-self-inside}
use Rattle.camp_history.proofs.seats.Seat.publish.Goals as goal

pub exchange_cell-requires-clause-room : goal.exchange_cell-requires-clause-room
exchange_cell-requires-clause-room g c =
    let here : entry_count c.self.inside.pass.number c.self.inside.pass.seen ≡ length (own c.args.self.now.known.number (history_of c.args.self.now)) =
    ap (entry_count c.self.inside.pass.number) (sym c.self.invariant.entries_are)
    ∙ sym (length-own c.self.inside.pass.number (marks_in c.self.inside))
    ∙ ap (λ seat. length (own seat.known.number (history_of seat))) c.self.view_is
    in
    rw here c.requires.room

-- the mark that is pushed
pushed : (g : Over) (c : After-drop-self-inside g) → Mark g.row.State-Call.Denot
pushed g c = record { seat = c.self.inside.pass.number; call = c.args.call.now }

stands : (g : Over) (c : After-drop-self-inside g) → c.self.inside.earlier ++ c.push_reserved.new.self.items ≡ marks_in c.self.inside ++ pushed g c ∷ []
unfolding pushed
stands g c =
    let items : c.push_reserved.new.self.items ≡ c.reserve.new.self.items ++ record { seat = c.number-number.result; call = c.again.result } ∷ [] = c.push_reserved.ensures.items in
    let kept : c.reserve.new.self.items ≡ c.self.inside.tail.items = c.in_ok-reserve.ensures.items in
    let number : c.number-number.result ≡ c.self.inside.pass.number = c.number-number.ensures.number in
    let call : c.again.result ≡ c.args.call.now = c.again.ensures in
    one_more c.self.inside.earlier c.self.inside.tail.items c.push_reserved.new.self.items (pushed g c) (
    items
    ∙ ap (λ list. list ++ record { seat = c.number-number.result; call = c.again.result } ∷ []) kept
    ∙ ap (λ number. c.self.inside.tail.items ++ record { seat = number; call = c.again.result } ∷ []) number
    ∙ ap (λ call. c.self.inside.tail.items ++ record { seat = c.self.inside.pass.number; call = call } ∷ []) call
    )

-- what a pass knows after it has won
abbrev won : PassState → PassState
won known = record known { seen = known.seen ++ drafted known ∷ []; ahead = known.seen ++ drafted known ∷ []; parent = 0; index = 0 }

-- the pass has won
passed : (g : Over) (c : After-drop-self-inside g) → c.exchange_cell.new.pass ≡ won (with_draft c.self.inside.pass c.args.call.now.index)
passed g c =
    let won_over : Won (with_draft c.self.inside.pass c.index.result) c.exchange_cell.new.pass = c.if-not-exchange_cell.ensures in
    let index : c.index.result ≡ c.args.call.now.index = c.index.ensures in
    won_over.is ∙ ap (λ index. won (with_draft c.self.inside.pass index)) index

-- the history that the seat began with
begins : (g : Over) (c : After-drop-self-inside g) → IsFirst g.State.Object.object c.args.self.now.first
begins g c = subst (IsFirst g.State.Object.object) (ap (λ seat. seat.first) c.self.view_is) c.self.invariant.is_first

leads : (g : Over) (c : After-drop-self-inside g) → replay (begun g.State.Object.object c.args.self.now.first) (map seat_and_call (c.self.inside.earlier ++ c.push_reserved.new.self.items)) ≡ Some c.args.next
unfolding pushed
leads g c =
    let object = begun g.State.Object.object c.args.self.now.first in
    ap (replay object) (history_more (marks_in c.self.inside) (c.self.inside.earlier ++ c.push_reserved.new.self.items) (pushed g c) (stands g c))
    ∙ ap (λ seat. replay object (history_of seat ++ (seat.known.number, c.args.call.now.value) ∷ [])) c.self.view_is
    ∙ c.requires.next

pub invariant_of-self-2 : goal.invariant_of-self-2
unfolding pushed
invariant_of-self-2 g c =
    let marks = marks_in c.self.inside in
    let now = c.self.inside.earlier ++ c.push_reserved.new.self.items in
    rw (passed g c) (
    record {
      entries_are = entries_more marks now (pushed g c) (stands g c) c.self.inside.pass.seen (c.self.inside.pass.seen ++ entry_of (pushed g c) ∷ []) c.self.invariant.entries_are refl;
      below =
          all_more marks now (pushed g c) (stands g c) (λ mark. mark.seat < c.self.inside.pass.row.seats) c.self.invariant.below (
          let below = c.number-number.ensures.below in rw (← c.number-number.ensures.number) below
          );
      is_first = next_first g.State.Object.object g.met.State.Object.lawful c.args.self.now.first (begins g c) (map seat_and_call now) c.args.next (leads g c);
      replays = next_replays g.State.Object.object g.met.State.Object.lawful c.args.self.now.first (begins g c) (map seat_and_call now) c.args.next (leads g c);
      begins = bases_begin marks now (bases_in c.self.inside.bases.items) (begins_more marks now (pushed g c) (stands g c)) c.self.invariant.begins;
      few = c.self.invariant.few;
    }
    )

pub returns : goal.returns
unfolding pushed
returns g c =
    let here = (goal.at.returns g c).After-drop-self-inside in
    let object = g.State.Object.object in
    let now : SeatState g.row.State.Denot g.row.State-Call.Denot =
    record { first = object.first c.args.next; known = c.exchange_cell.new.pass; marks = c.self.inside.earlier ++ c.push_reserved.new.self.items; bases = bases_in c.self.inside.bases.items } in
    let publishes : Publishes (seat_state object c.self.inside) c.args.call.now now = record {
      first = begins_same object g.met.State.Object.lawful c.args.self.now.first (begins g here) (map seat_and_call now.marks) c.args.next (leads g here) ∙ sym (ap (λ seat. seat.first) c.self.view_is);
      number = ap (λ known. known.number) (passed g here);
      row = ap (λ known. known.row) (passed g here);
      marks = stands g here;
      bases = refl;
    } in
    subst (λ seat. Publishes seat c.args.call.now now) c.self.view_is publishes
