use Rattle.camp_history.proofs.Words.{All, All-same, Shows, ap, is_ok, IsBaseAt, IsMarkPrefix, bases_in, marks_in, subst, sym}
use Rattle.camp_history.proofs.SnapshotLemmas.{noted_based}
use Rattle.camp_history.proofs.heads.Head.note.Goals as goal

pub invariant_of-seat : goal.invariant_of-seat
invariant_of-seat g c =
    let inside = c.seat.inside in
    let begins : IsMarkPrefix c.args.base.snapshot.value (marks_in inside) = subst (IsMarkPrefix c.args.base.snapshot.value) (sym (ap (λ seat. seat.marks) c.seat.view_is)) c.requires.begins in
    record {
      entries_are = c.seat.invariant.entries_are;
      below = c.seat.invariant.below;
      is_first = c.seat.invariant.is_first;
      replays = c.seat.invariant.replays;
      begins =
          noted_based (λ base. IsMarkPrefix base.marks (marks_in inside)) inside.bases.items c.make_room.new.bases.items c.push-noted.new.self.items c.args.base c.make_room.ensures.0 (is_ok c.push-noted.result) c.make_room.ensures.1
          c.push-noted.ensures.items c.seat.invariant.begins begins;
      few = c.seat.invariant.few;
    }

pub returns-clause-seat : goal.returns-clause-seat
returns-clause-seat g c =
    let inside = c.seat.inside in
    let bases = All-same (IsBaseAt c.args.self.now.slots) (bases_in inside.bases.items) c.args.seat.now.bases (ap (λ seat. seat.bases) c.seat.view_is) c.requires.seat.bases in
    record {
      first = rw (ap (λ seat. seat.first) c.seat.view_is) c.requires.seat.first;
      row = rw (ap (λ seat. seat.known.row) c.seat.view_is) c.requires.seat.row;
      stored = subst (All (λ mark. Shows c.args.self.now.store mark.call)) (sym (ap (λ seat. seat.marks) c.seat.view_is)) c.requires.seat.stored;
      bases =
          noted_based (IsBaseAt c.args.self.now.slots) inside.bases.items c.make_room.new.bases.items c.push-noted.new.self.items c.args.base c.make_room.ensures.0 (is_ok c.push-noted.result) c.make_room.ensures.1
          c.push-noted.ensures.items bases c.requires.base;
    }
