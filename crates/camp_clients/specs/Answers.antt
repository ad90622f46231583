-- What an answer says of two prefixes of the history: the one that its caller had seen before the call, and the one at
-- which the answer was given.
use Rattle.std.specs.Prelude.{◌≡◌, ℕ, ◌≤◌, List, [], ◌∷◌, ◌++◌, length, Option, None, Some, Result, Ok, Err, MatchOption}
use Rattle.camp_object.specs.Asking.{Ask, Caller}
use Rattle.camp_object.specs.Histories.{IsAccepted, IsAnswered, IsBeginning, own}
use Rattle.camp_object.specs.Objects.{Sequential}
use Rattle.camp_object.specs.declared.faults.Fault.{Fault}
use Rattle.camp_object.specs.declared.faults.Fault.TheVariants.{Memory, Busy, Full}

-- the position in an answer to an accepted call; none in any other
abbrev pub reported_position : {State Call Reply : Type 0} → Sequential State Call Reply → Result Reply Fault → Option ℕ
reported_position object (Ok reply) = object.done_at reply
reported_position object (Err fault) = None

-- an answer other than out of memory
abbrev pub HasMemory : {Reply : Type 0} → Result Reply Fault → Type 0
HasMemory (Ok reply) = Unit {0}
HasMemory (Err Memory) = ⊥
HasMemory (Err (Busy lost)) = Unit {0}
HasMemory (Err Full) = Unit {0}

-- an answer after which a section continues: neither out of memory nor a full seat
abbrev pub SectionContinues : {Reply : Type 0} → Result Reply Fault → Type 0
SectionContinues (Ok reply) = Unit {0}
SectionContinues (Err Memory) = ⊥
SectionContinues (Err (Busy lost)) = Unit {0}
SectionContinues (Err Full) = ⊥

-- an answer of a desk after which a section continues
pub record SectionStep {State Call Reply : Type 0} (object : Sequential State Call Reply) (caller : Caller)
    (seen : List (ℕ × Call)) (call : Call) (answer : Result Reply Fault) (now : List (ℕ × Call)) : Type 0 where
  pub asks : Ask object caller seen call answer now
  pub continues : SectionContinues answer

-- the answer `Done`: the prefix ends with the call, which was accepted after the calls before it; the answer contains
-- the prefix's length
pub record IsDone {Call : Type 0} (seat : ℕ) (before : List (ℕ × Call)) (call : Call) (at : ℕ)
    (prefix : List (ℕ × Call)) : Type 0 where
  pub at_acceptance : List (ℕ × Call)
  pub since : IsBeginning before at_acceptance
  pub ends : at_acceptance ++ (seat, call) ∷ [] ≡ prefix
  pub position : at ≡ length prefix

-- the answer `Busy`: since the prefix `before`, other seats had at least `tries` calls accepted, and this seat none
pub record IsOvertaken {Call : Type 0} (seat tries : ℕ) (before : List (ℕ × Call)) (lost : ℕ)
    (prefix : List (ℕ × Call)) : Type 0 where
  pub others : List (ℕ × Call)
  pub makes : before ++ others ≡ prefix
  pub none_own : own seat others ≡ []
  pub enough : tries ≤ length others
  pub all_lost : lost ≡ tries

-- what an answer says among threads; a reply to a call that was not accepted is the object's reply at that prefix
abbrev pub SaysAmongThreads : {State Call Reply : Type 0} → Sequential State Call Reply → (seat tries : ℕ)
    → List (ℕ × Call) → Call → Result Reply Fault → List (ℕ × Call) → Type 0
SaysAmongThreads object seat tries before call (Ok reply) prefix =
    MatchOption (object.done_at reply) (IsBeginning before prefix × IsAnswered object prefix call reply)
    (λ at. IsDone seat before call at prefix)
SaysAmongThreads object seat tries before call (Err Memory) prefix = ⊥
SaysAmongThreads object seat tries before call (Err (Busy lost)) prefix = IsOvertaken seat tries before lost prefix
SaysAmongThreads object seat tries before call (Err Full) prefix = ⊥

-- what an answer says if nobody else asks: it is that of the object at the history before; an accepted call, and
-- nothing else, is then added to the history
abbrev pub SaysAlone : {State Call Reply : Type 0} → Sequential State Call Reply → (seat : ℕ)
    → List (ℕ × Call) → Call → Result Reply Fault → List (ℕ × Call) → Type 0
SaysAlone object seat before call (Ok reply) prefix =
    MatchOption (object.done_at reply) ((prefix ≡ before) × IsAnswered object before call reply)
    (λ at. (prefix ≡ before ++ (seat, call) ∷ []) × (at ≡ length prefix))
SaysAlone object seat before call (Err fault) prefix = ⊥

-- if the answer says that the call was accepted, the object accepts it at the state after the history before it
pub record StepsAlone {State Call Reply : Type 0} (object : Sequential State Call Reply) (seat : ℕ)
    (before : List (ℕ × Call)) (call : Call) (answer : Result Reply Fault) (prefix : List (ℕ × Call)) : Type 0 where
  pub says : SaysAlone object seat before call answer prefix
  pub accepted : (at : ℕ) → reported_position object answer ≡ Some at → IsAccepted object before call
