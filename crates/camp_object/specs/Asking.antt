-- What an answer says of the history: of the calls that its caller had seen before the call, and of those that it has
-- seen with the answer.
use Rattle.std.specs.Prelude.{◌≡◌, ℕ, zero, suc, ◌<◌, Bool, true, false, List, [], ◌∷◌, ◌++◌, length}
use Rattle.std.specs.Prelude.{Result, Ok, Err, MatchOption}
use Rattle.camp_object.specs.Objects.{Sequential}
use Rattle.camp_object.specs.Histories.{IsBeginning, IsLegal, IsAccepted, IsAnswered, own}
use Rattle.camp_object.specs.declared.faults.Fault.{Fault}
use Rattle.camp_object.specs.declared.faults.Fault.TheVariants.{Memory, Busy, Full}

-- a caller, with the bounds on its calls
pub record Caller : Type 0 where
  -- the number of its seat
  pub seat : ℕ
  -- the number of lost compare-exchanges after which the caller's call is answered Busy
  pub tries : ℕ
  -- the most accepted calls of the seat
  pub per_seat : ℕ
  -- true if nobody else adds to the history; then the two bounds do not apply
  pub alone : Bool

-- a caller at a seat, while nobody else adds to the history
abbrev pub alone_at : ℕ → Caller
alone_at seat = record { seat = seat; tries = 0; per_seat = 0; alone = true }

module _ {Call : Type 0} (caller : Caller) (seen : List (ℕ × Call)) where
  -- the call was accepted after all that its caller had seen: it is the last of the history, at this position, and the
  -- caller's only new call
  pub record Accepts (call : Call) (at : ℕ) (now : List (ℕ × Call)) : Type 0 where
    pub before : List (ℕ × Call)
    pub since : IsBeginning seen before
    pub ends : now ≡ before ++ (caller.seat, call) ∷ []
    pub own_grows : own caller.seat now ≡ own caller.seat seen ++ call ∷ []
    pub position : at ≡ length now
    pub has_room : caller.alone ≡ false → length (own caller.seat seen) < caller.per_seat
    pub exact : caller.alone ≡ true → before ≡ seen

  -- the caller has no new call in the history; if it is alone, the history has no new call at all
  pub record AddsNothing (now : List (ℕ × Call)) : Type 0 where
    pub own_stays : own caller.seat now ≡ own caller.seat seen
    pub exact : caller.alone ≡ true → now ≡ seen

-- the call lost `count` compare-exchanges: each time it would have been accepted at a prefix of the history, but
-- another call came next
abbrev pub Loses : {State Call Reply : Type 0} → Sequential State Call Reply → Call → ℕ
    → List (ℕ × Call) → List (ℕ × Call) → Type 0
Loses object call zero seen now = IsBeginning seen now
Loses {Call = Call} object call (suc times) seen now =
    (beginning : List (ℕ × Call)) × (ahead : ℕ × Call) × IsBeginning seen beginning × IsAccepted object beginning call
    × Loses object call times (beginning ++ ahead ∷ []) now

module _ {State Call Reply : Type 0} (object : Sequential State Call Reply)
    (caller : Caller) (seen : List (ℕ × Call)) (call : Call) where
  -- the call lost as many exchanges as its caller tries, and was not added
  pub record IsBusy (lost : ℕ) (now : List (ℕ × Call)) : Type 0 where
    pub adds_nothing : AddsNothing caller seen now
    pub not_alone : caller.alone ≡ false
    pub all_lost : lost ≡ caller.tries
    pub has_room : length (own caller.seat seen) < caller.per_seat
    pub loses : Loses object call lost seen now

  -- the call would be accepted, but its caller already has as many accepted calls as it may have
  pub record IsFull (now : List (ℕ × Call)) : Type 0 where
    pub adds_nothing : AddsNothing caller seen now
    pub not_alone : caller.alone ≡ false
    pub no_room : length (own caller.seat seen) ≡ caller.per_seat
    pub accepted : IsAccepted object now call

  -- what each kind of answer says; a reply contains a position exactly if the call was accepted
  abbrev pub Says : Result Reply Fault → List (ℕ × Call) → Type 0
  Says (Ok reply) now =
      MatchOption (object.done_at reply)
      (AddsNothing caller seen now × IsAnswered object now call reply)
      (λ at. Accepts caller seen call at now)
  Says (Err Memory) now = AddsNothing caller seen now
  Says (Err (Busy lost)) now = IsBusy lost now
  Says (Err Full) now = IsFull now

  -- the answer to a call: the caller has now seen a legal history that begins with all it had seen before
  pub record Ask (answer : Result Reply Fault) (now : List (ℕ × Call)) : Type 0 where
    pub grows : IsBeginning seen now
    pub legal : IsLegal object now
    pub says : Says answer now

-- the answer is not Busy
abbrev pub IsNotBusy : {Reply : Type 0} → Result Reply Fault → Type 0
IsNotBusy (Ok reply) = Unit {0}
IsNotBusy (Err Memory) = Unit {0}
IsNotBusy (Err (Busy lost)) = ⊥
IsNotBusy (Err Full) = Unit {0}
