use Rattle.camp_history.proofs.Words.{◌≡◌, [], ◌<◌, ◌∷◌, ◌++◌, refl, sym, ◌∙◌, ap, List, bases_in, marks_in, replay, seat_and_call, entry_of, history_of, with_mark, PassState, Mark, Some, map, subst, begun, IsFirst}
use Rattle.camp_history.proofs.Seeing.{entries_more, history_more, begins_more, bases_begin, all_more, one_more, begins_same, next_first, next_replays}
use Rattle.camp_history.proofs.seats.Seat.step.Given.{Over}
use Rattle.camp_history.proofs.seats.Seat.step.Goals as goal

-- the mark that is pushed
pushed : (g : Over) (c : goal.After-drop-self-inside g) → Mark g.row.State-Call.Denot
pushed g c = record { seat = c.args.next.entry.seat; call = c.args.call }

-- all marks of the seat then
now : (g : Over) (c : goal.After-drop-self-inside g) → List (Mark g.row.State-Call.Denot)
now g c = c.self.inside.earlier ++ c.push_reserved.new.self.items

stands : (g : Over) (c : goal.After-drop-self-inside g) → now g c ≡ marks_in c.self.inside ++ pushed g c ∷ []
unfolding pushed now
stands g c =
    let items : c.push_reserved.new.self.items ≡ c.reserve.new.self.items ++ pushed g c ∷ [] = c.push_reserved.ensures.items in
    let kept : c.reserve.new.self.items ≡ c.self.inside.tail.items = c.in_ok-reserve.ensures.items in
    one_more c.self.inside.earlier c.self.inside.tail.items c.push_reserved.new.self.items (pushed g c) (items ∙ ap (λ list. list ++ pushed g c ∷ []) kept)

-- what the pass then knows
known : (g : Over) (c : goal.After-drop-self-inside g) → c.advance.new.pass ≡ record c.self.inside.pass { seen = c.self.inside.pass.seen ++ entry_of (pushed g c) ∷ [] }
unfolding pushed
known g c =
    let Then : _ → PassState = λ index. record c.self.inside.pass { seen = c.self.inside.pass.seen ++ record { seat = c.args.next.entry.seat; index = index } ∷ [] } in
    c.advance.ensures.exact ∙ ap Then (sym c.requires.index)

below : (g : Over) (c : goal.After-drop-self-inside g) → c.args.next.entry.seat < c.self.inside.pass.row.seats
below g c =
    let seats : c.self.inside.pass.row.seats ≡ c.args.self.now.known.row.seats = ap (λ seat. seat.known.row.seats) c.self.view_is in
    rw seats c.requires.next.seat_below

-- the history that the seat began with
begins : (g : Over) (c : goal.After-drop-self-inside g) → IsFirst g.State.Object.object c.args.self.now.first
begins g c = subst (IsFirst g.State.Object.object) (ap (λ seat. seat.first) c.self.view_is) c.self.invariant.is_first

leads : (g : Over) (c : goal.After-drop-self-inside g) → replay (begun g.State.Object.object c.args.self.now.first) (map seat_and_call (now g c)) ≡ Some c.args.state
unfolding pushed now
leads g c =
    let object = begun g.State.Object.object c.args.self.now.first in
    ap (replay object) (history_more (marks_in c.self.inside) (now g c) (pushed g c) (stands g c))
    ∙ ap (λ seat. replay object (history_of seat ++ seat_and_call (pushed g c) ∷ [])) c.self.view_is
    ∙ c.requires.state

pub invariant_of-self-2 : goal.invariant_of-self-2
unfolding pushed now
invariant_of-self-2 g c =
    let marks = marks_in c.self.inside in
    rw (known g c) (
    record {
      entries_are = entries_more marks (now g c) (pushed g c) (stands g c) c.self.inside.pass.seen (c.self.inside.pass.seen ++ entry_of (pushed g c) ∷ []) c.self.invariant.entries_are refl;
      below = all_more marks (now g c) (pushed g c) (stands g c) (λ mark. mark.seat < c.self.inside.pass.row.seats) c.self.invariant.below (below g c);
      is_first = next_first g.State.Object.object g.met.State.Object.lawful c.args.self.now.first (begins g c) (map seat_and_call (now g c)) c.args.state (leads g c);
      replays = next_replays g.State.Object.object g.met.State.Object.lawful c.args.self.now.first (begins g c) (map seat_and_call (now g c)) c.args.state (leads g c);
      begins = bases_begin marks (now g c) (bases_in c.self.inside.bases.items) (begins_more marks (now g c) (pushed g c) (stands g c)) c.self.invariant.begins;
      few = c.self.invariant.few;
    }
    )

pub returns-clause-ok : goal.returns-clause-ok
unfolding pushed now
returns-clause-ok g c =
    let same = begins_same g.State.Object.object g.met.State.Object.lawful c.args.self.now.first (begins g c) (map seat_and_call (now g c)) c.args.state (leads g c) in
    let first = same ∙ sym (ap (λ seat. seat.first) c.self.view_is) in
    (λ k. record { first = first k; known = known g c k; marks = stands g c k; bases = bases_in c.self.inside.bases.items })
    ∙ ap (λ seat. with_mark seat (pushed g c)) c.self.view_is
