use Rattle.std.proofs.Common.{◌≡◌, ◌++◌, ℕ, ◌+◌, ◌≤◌}
use Rattle.camp_entries.specs.Texts.{hex_digits, seat_text}
use Rattle.camp_entries.proofs.seats.seat_text.Given as goal

abbrev pub invariant-loop : goal.invariant-loop
invariant-loop l = (l.counter ≤ 32) × ((count : ℕ) → count + l.counter ≡ 32 → seat_text l.seat ≡ hex_digits count l.rest ++ l.text.items)
