use Rattle.camp_clients.proofs.Words.{◌≡◌, ◌≤◌, [], sym, subst, arith, count_by, All, IsSeatOf, history_of}
use Rattle.camp_clients.proofs.Gathering.{after_first}
use Rattle.camp_clients.proofs.Opening.{opened_length, opened_seat}
use Rattle.camp_clients.proofs.heads.shared_from.Goals as goal

pub remove-opener-requires : goal.remove-opener-requires
remove-opener-requires g c = omega (arith, opened_length _ _ _ _ _ _ c.in_ok-head.ensures, c.in_ok-head.seats.ok.0)

pub all-requires-clause-opener : goal.all-requires-clause-opener
all-requires-clause-opener g c _ _ =
    rw c.remove-opener.ensures.value (opened_seat _ _ _ _ _ _ c.in_ok-head.ensures 0 c.remove-opener.result (omega (arith, opened_length _ _ _ _ _ _ c.in_ok-head.ensures)))

pub invariant_of-run-clause-room : goal.invariant_of-run-clause-room
invariant_of-run-clause-room g c =
    subst (λ most. All (λ calls. count_by g.State.Object.object.is_writing calls.items ≤ most) c.args.plan.now.sections.now) (sym c.in_ok-head.ensures.has_calls) c.most_writing-per_seat.ensures.room

pub all-requires-clause-seats : goal.all-requires-clause-seats
all-requires-clause-seats g c _ _ =
    after_first (λ k seat. IsSeatOf c.in_ok-head.head seat × (seat.known.number ≡ k) × (history_of seat ≡ []))
    c.in_ok-head.seats.items c.remove-opener.new.self.items c.remove-opener.ensures.items
    (opened_seat _ _ _ _ _ _ c.in_ok-head.ensures)

pub all-requires-clause-as_many : goal.all-requires-clause-as_many
all-requires-clause-as_many g c _ _ = omega (
  arith,
  c.remove-opener.ensures.len,
  c.remove-opener.new.self.ok.0,
  c.in_ok-head.seats.ok.0,
  opened_length _ _ _ _ _ _ c.in_ok-head.ensures,
)
