use Rattle.camp_history.proofs.Words.{length-map, length-append, IsTrail, news, ContinuesSeat, Installs, SeatState, seat_state, marks_in, entry_of, IsMarkPrefix, All, bases_in, ◌≡◌, ◌<◌, ◌+◌, ◌-◌, ◌++◌, refl, sym, ◌∙◌, ap, map, length, subst, arith, IsFirst}
use Rattle.camp_history.proofs.Seeing.{bases_begin}
use Rattle.camp_history.proofs.SnapshotLemmas.{news_within, news_length, installed_known, installed_entries, installed_below, begins_within}
use Rattle.camp_history.proofs.seats.Seat.install.Given.{Over}
use Rattle.camp_history.proofs.seats.Seat.install.Goals.{After-len-3}
use Rattle.camp_history.proofs.seats.Seat.install.Goals as goal

continues : (g : Over) (c : After-len-3 g) → ContinuesSeat (seat_state g.State.Object.object c.self.inside) c.args.snapshot
continues g c = subst (λ seat. ContinuesSeat seat c.args.snapshot) (sym c.self.view_is) c.requires.continues_seat

-- its history began as that of the snapshot
same : (g : Over) (c : After-len-3 g) → g.State.Object.object.first c.self.inside.state ≡ g.State.Object.object.first c.snapshot.inside.state
same g c =
    let first = g.State.Object.object.first in
    ap first (sym c.deref.ensures) ∙ c.begins_alike.ensures.0 c.if-not-begins_alike.false ∙ ap first c.deref-2.ensures

-- how many calls the seat has seen
seen : (g : Over) (c : After-len-3 g) → c.len-2.result + c.len-3.result ≡ length (marks_in c.self.inside)
seen g c =
    let earlier : c.len-2.result ≡ length c.self.inside.earlier = c.len-2.ensures.exact ∙ ap length c.deref-3.ensures in
    let tail : c.len-3.result ≡ length c.self.inside.tail.items = c.len-3.ensures ∙ c.self.inside.tail.ok.0 in
    omega (arith, earlier, tail, length-append c.self.inside.earlier c.self.inside.tail.items)

count : (g : Over) (c : After-len-3 g) → c.len.result - (c.len-2.result + c.len-3.result) ≡ length (news (seat_state g.State.Object.object c.self.inside) c.args.snapshot)
count g c =
    let long : c.len.result ≡ length c.args.snapshot = c.len.ensures in
    omega (arith, long, seen g c, news_length (seat_state g.State.Object.object c.self.inside) c.args.snapshot (continues g c))

pub overflow_sub-count : goal.overflow_sub-count
overflow_sub-count g c =
    let here = (goal.at.overflow_sub-count g c).After-len-3 in
    let long : c.len.result ≡ length c.args.snapshot = c.len.ensures in
    omega (arith, long, seen g here, begins_within (marks_in c.self.inside) c.args.snapshot (continues g here).begins)

pub advance_by-requires-clause-count : goal.advance_by-requires-clause-count
advance_by-requires-clause-count g c =
    let here = (goal.at.advance_by-requires-clause-count g c).After-len-3 in
    let seat = seat_state g.State.Object.object c.self.inside in
    let leads : IsTrail seat.known seat.known.seen c.args.trail.now = subst (λ seat. IsTrail seat.known seat.known.seen c.args.trail.now) (sym c.self.view_is) c.requires.leads in
    let more = news seat c.args.snapshot in
    omega (arith, count g here, news_within seat.known c.args.trail.now (map entry_of more) leads (continues g here).ahead, length-map more entry_of)

pub invariant_of-self : goal.invariant_of-self
invariant_of-self g c =
    let here = (goal.at.invariant_of-self g c).After-len-3 in
    let seat = seat_state g.State.Object.object c.self.inside in
    let snapshot = c.args.snapshot in
    let is : snapshot ≡ c.snapshot.inside.earlier ++ c.snapshot.inside.tail.items = sym c.snapshot.view_is in
    let known = c.advance_by.new.pass in
    let number = c.len.result - (c.len-2.result + c.len-3.result) in
    record {
      entries_are = subst (λ marks. map entry_of marks ≡ known.seen) is (installed_entries seat snapshot (continues g here) known number (count g here) c.advance_by.ensures.seen c.self.invariant.entries_are);
      below = subst (λ marks. All (λ mark. mark.seat < known.row.seats) marks) is (installed_below seat snapshot (continues g here) known number (count g here) c.advance_by.ensures.seen c.self.invariant.below);
      is_first = subst (IsFirst g.State.Object.object) (same g here) c.self.invariant.is_first;
      replays = c.snapshot.invariant.1;
      begins = subst (λ marks. All (λ base. IsMarkPrefix base.marks marks) (bases_in c.self.inside.bases.items)) is (bases_begin seat.marks snapshot (bases_in c.self.inside.bases.items) (continues g here).begins c.self.invariant.begins);
      few = c.snapshot.invariant.0;
    }

pub returns-clause-installs : goal.returns-clause-installs
returns-clause-installs g c =
    let here = (goal.at.returns-clause-installs g c).After-len-3 in
    let seat = seat_state g.State.Object.object c.self.inside in
    let snapshot = c.args.snapshot in
    let now : SeatState g.row.State.Denot g.row.State-Call.Denot =
    record { first = g.State.Object.object.first c.snapshot.inside.state; known = c.advance_by.new.pass; marks = c.snapshot.inside.earlier ++ c.snapshot.inside.tail.items; bases = bases_in c.self.inside.bases.items } in
    let number = c.len.result - (c.len-2.result + c.len-3.result) in
    let installs : Installs seat snapshot now =
    record { first = sym (same g here); marks = c.snapshot.view_is; bases = refl; known = installed_known seat snapshot (continues g here) c.advance_by.new.pass number (count g here) c.advance_by.ensures.seen } in
    subst (λ seat. Installs seat snapshot now) c.self.view_is installs
