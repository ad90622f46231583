-- The result of a script if one thread asks its sections one after the other.
use Rattle.std.specs.Prelude.{◌≡◌, ℕ, ◌+◌, List, [], ◌∷◌, ◌++◌, map, Result, Ok}
use Rattle.camp_object.specs.declared.faults.Fault.{Fault}
use Rattle.camp_object.specs.declared.objects.Decided.TheVariants.{Next, Answer}
use Rattle.camp_call.specs.declared.calls.Call.{Call}
use Rattle.camp_call.specs.declared.replies.Reply.{Reply}
use Rattle.camp_repo.specs.Limits.{Bounds}
use Rattle.camp_repo.specs.Objects.{replies_to, state_after, state_after_decision}
use Rattle.camp_repo.specs.States.{Contents, new_within}
use Rattle.camp_repo.specs.Steps.{Decision, step}

-- the replies to sections, one after the other from a state on
abbrev pub replies_from : Contents → List (List Call) → List (List Reply)
replies_from state [] = []
replies_from state (calls ∷ sections) = replies_to state calls ∷ replies_from (state_after state calls) sections

-- accepted calls, with a further call before them if the decision accepts it
abbrev pub booked : Decision → ℕ × Call → List (ℕ × Call) → List (ℕ × Call)
booked (Next state) entry rest = entry ∷ rest
booked (Answer answer) entry rest = rest

-- the accepted calls of a section that runs from a state on, each with the section's seat
abbrev pub accepted_from : ℕ → Contents → List Call → List (ℕ × Call)
accepted_from seat state [] = []
accepted_from seat state (call ∷ calls) =
    booked (step state call) (seat, call) (accepted_from seat (state_after_decision state (step state call)) calls)

-- the accepted calls of sections that run one after the other from a state on, each with its seat; the first section is
-- at seat `seat`
abbrev pub history_from : ℕ → Contents → List (List Call) → List (ℕ × Call)
history_from seat state [] = []
history_from seat state (calls ∷ sections) =
    accepted_from seat state calls ++ history_from (seat + 1) (state_after state calls) sections

-- the answers and the history of sections of calls to a new repository with these limits, one after the other
pub record IsSerial (limits : Bounds) (sections : List (List Call)) (answers : List (List (Result Reply Fault)))
    (history : List (ℕ × Call)) : Type 0 where
  pub replies : answers ≡ map (map Ok) (replies_from (new_within limits) sections)
  pub books : history ≡ history_from 0 (new_within limits) sections
