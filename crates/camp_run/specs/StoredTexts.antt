-- The history that a stored text leads back to.
use Rattle.std.specs.Prelude.{◌≡◌, ℕ, ◌+◌, ◌≤◌, List, [], ◌∷◌, length, map, Some, Result, Ok}
use Rattle.std.specs.List.{AllByRecursion}
use Rattle.camp_object.specs.Histories.{replay}
use Rattle.camp_object.specs.declared.faults.Fault.{Fault}
use Rattle.camp_call.specs.declared.calls.Call.{Call}
use Rattle.camp_call.specs.declared.replies.Reply.{Reply}
use Rattle.camp_call.specs.declared.replies.Reply.TheVariants.{Done}
use Rattle.camp_repo.specs.Limits.{Bounds}
use Rattle.camp_repo.specs.Objects.{repository_within}
use Rattle.camp_repo.specs.States.{Contents}
use Rattle.camp_run.specs.Serial.{IsSerial}
use Rattle.camp_script.specs.Keeping.{CanBeInScript, calls_of, kept_text}
use Rattle.camp_script.specs.Sections.{most_writing_calls}
use Rattle.camp_script.specs.Reading.{script_of}

-- the history with all its calls at seat 0
abbrev pub moved_to_seat_0 : {Call : Type 0} → List (ℕ × Call) → List (ℕ × Call)
moved_to_seat_0 history = map (λ entry. (0, entry.1)) history

-- the answers to accepted calls: consecutive positions, from this one on
abbrev pub dones : ℕ → List Call → List (Result Reply Fault)
dones at [] = []
dones at (call ∷ calls) = Ok (Done at) ∷ dones (at + 1) calls

-- the text of a history is a script of one section, and a new repository with these limits accepts each of its calls.
-- They lead to the same state, and to the same history except that all calls are at seat 0
pub record LeadsBack (limits : Bounds) (history : List (ℕ × Call)) (state : Contents) : Type 0 where
  pub reads : script_of (kept_text history) ≡ Ok (calls_of history ∷ [])
  pub is_serial : IsSerial limits (calls_of history ∷ []) (dones 1 (calls_of history) ∷ []) (moved_to_seat_0 history)
  pub leads : replay (repository_within limits) (moved_to_seat_0 history) ≡ Some state

-- each legal history of at most 65,536 calls that scripts can contain leads back by its text
abbrev pub KeptLeadsBack : Type 0
KeptLeadsBack = (limits : Bounds) (history : List (ℕ × Call)) (state : Contents) → replay (repository_within limits) history ≡ Some state
    → AllByRecursion CanBeInScript (calls_of history) → length history ≤ most_writing_calls → LeadsBack limits history state

-- the text of a history is a script, and a new repository with these limits that is asked its calls has exactly this
-- history
pub record ReadsBackExactly (limits : Bounds) (history : List (ℕ × Call)) : Type 0 where
  pub reads : script_of (kept_text history) ≡ Ok (calls_of history ∷ [])
  pub is_serial : IsSerial limits (calls_of history ∷ []) (dones 1 (calls_of history) ∷ []) history

-- the text of each legal history of at most 65,536 calls that scripts can contain, all at seat 0, reads back exactly
abbrev pub SeatZeroIsPreserved : Type 0
SeatZeroIsPreserved = (limits : Bounds) (history : List (ℕ × Call)) (state : Contents) → replay (repository_within limits) history ≡ Some state
    → AllByRecursion CanBeInScript (calls_of history) → length history ≤ most_writing_calls
    → AllByRecursion (λ entry. entry.0 ≡ 0) history → ReadsBackExactly limits history
