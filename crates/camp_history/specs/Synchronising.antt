-- What two seats know of each other after they were synchronised.
use Rattle.std.specs.Prelude.{◌≡◌, ◌⊎◌, Result, OnOk, IfErr}
use Rattle.camp_object.specs.Histories.{IsBeginning, own}
use Rattle.camp_object.specs.declared.faults.Fault.{Fault}
use Rattle.camp_object.specs.declared.faults.Fault.TheVariants.{Memory}
use Rattle.camp_history.specs.Seats.{SeatState, history_of}

-- Before, the calls that one of the two seats had seen were a prefix of those that the other had seen. b is unchanged.
-- a sees further calls, but none of its own. After Ok, a has seen all that b has seen, and no other call of b.
pub record Synchronises {State Call : Type 0} (a b a' b' : SeatState State Call) (answer : Result (Unit {0}) Fault) : Type 0 where
  pub a_number : a'.known.number ≡ a.known.number
  pub a_grows : IsBeginning (history_of a) (history_of a')
  pub a_own : own a.known.number (history_of a') ≡ own a.known.number (history_of a)
  pub b_number : b'.known.number ≡ b.known.number
  pub b_seen : history_of b' ≡ history_of b
  pub one : (IsBeginning (history_of a) (history_of b)) ⊎ (IsBeginning (history_of b) (history_of a))
  pub b_beginning : OnOk answer (IsBeginning (history_of b) (history_of a'))
  pub b_own : OnOk answer (own b.known.number (history_of a') ≡ own b.known.number (history_of b))
  pub only_memory : IfErr answer (λ fault. fault ≡ Memory)
