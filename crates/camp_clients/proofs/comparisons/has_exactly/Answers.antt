use Rattle.std.proofs.lemmas.List.{length-set}
use Rattle.camp_clients.proofs.Words.{reported_position, own_at, done_at, lists_of, section_of, ◌≡◌, ◌<◌, length, arith, subst, below_more, refl, replicate}
use Rattle.camp_clients.proofs.Comparing.{found_none, found_more, differs_no_more, exact_where_none_left, none_left, zeros, each_more}
use Rattle.camp_clients.proofs.Vectors.{length-lists_of}
use Rattle.camp_clients.proofs.comparisons.has_exactly.Goals as goal

pub loop-before-init : goal.loop-before-init
loop-before-init g c = record {
  indexes = omega arith;
  seats = λ k d none. absurd (omega arith);
  found = found_none (reported_position g.State.Object.object) (lists_of c.args.sections.now) (lists_of c.args.answers.now) (replicate 64 0) (λ seat. zeros 64 seat);
}

pub returns-then-not-matches_next : goal.returns-then-not-matches_next
returns-then-not-matches_next g c = record {
  exact = (
    (λ h. absurd (cc h)),
    λ exact. absurd (differs_no_more (reported_position g.State.Object.object) (lists_of c.args.sections.now) (lists_of c.args.answers.now) c.args.history.now
        c.loop-before.before c.loop-before-test.true c.index-history-before.result c.index-history-before.is c.loop-before.indexes c.loop-before.invariant.found
        c.if-not-matches_next.ensures exact),
  );
}

pub loop-before-preserved : goal.loop-before-preserved
loop-before-preserved g c =
    let m = c.if-not-matches_next.ensures in
    let inside : length (lists_of c.args.sections.now) ≡ length c.args.sections.now = length-lists_of c.args.sections.now in
    record {
      indexes = rw (m.moves, length-set) c.loop-before.invariant.indexes;
      seats = each_more (λ e. e.0 < length c.args.sections.now) c.args.history.now c.loop-before.before c.index-history-before.result c.loop-before-test.true
          c.index-history-before.is (subst (λ n. c.index-history-before.result.0 < n) inside m.is_section) c.loop-before.invariant.seats;
      found = found_more (reported_position g.State.Object.object) (lists_of c.args.sections.now) (lists_of c.args.answers.now) c.args.history.now
          c.loop-before.before c.loop-before-test.true c.index-history-before.result c.index-history-before.is c.loop-before.indexes c.loop-before.invariant.found
          c.matches_next.new.indexes (omega (arith, inside)) m;
    }

pub returns-then-not-is_used_up : goal.returns-then-not-is_used_up
returns-then-not-is_used_up g c = record {
  exact =
      let inside : length (lists_of c.args.sections.now) ≡ length c.args.sections.now = length-lists_of c.args.sections.now in (
        (λ h. absurd (cc h)),
        λ exact. absurd (
            let none = none_left (reported_position g.State.Object.object) (lists_of c.args.sections.now) (lists_of c.args.answers.now) c.args.history.now c.loop-before.before
            c.loop-before-test.false c.loop-before.indexes c.loop-before.invariant.found c.loop-seat.seat (omega (arith, inside)) exact in
            let used_up = c.is_used_up.ensures.1 none in let not = c.if-not-is_used_up.true in cc (used_up, not)),
      );
}

pub loop-seat-preserved : goal.loop-seat-preserved
loop-seat-preserved g c =
    let inside : length (lists_of c.args.sections.now) ≡ length c.args.sections.now = length-lists_of c.args.sections.now in
    let exact = exact_where_none_left (reported_position g.State.Object.object) (lists_of c.args.sections.now) (lists_of c.args.answers.now) c.args.history.now c.loop-before.before
    c.loop-before-test.false c.loop-before.indexes c.loop-before.invariant.found c.loop-seat.seat (omega (arith, inside)) (c.is_used_up.ensures.0 c.if-not-is_used_up.false) in
    below_more (λ seat. own_at seat 0 c.args.history.now
    ≡ done_at (reported_position g.State.Object.object) (section_of (lists_of c.args.sections.now) seat) (section_of (lists_of c.args.answers.now) seat))
    c.loop-seat.seat c.loop-seat.invariant exact

pub returns : goal.returns
returns g c = record {
  exact =
      let inside : length (lists_of c.args.sections.now) ≡ length c.args.sections.now = length-lists_of c.args.sections.now in (
        (λ h. record { own_done = λ seat below. c.loop-seat.invariant seat (omega (arith, inside)); no_other = λ k d below. rw inside (c.loop-before.invariant.seats k d (omega arith)) }),
        λ exact. refl,
      );
}
