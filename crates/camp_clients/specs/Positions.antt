-- Calls with their positions: those of one seat in a history, and those that the answers to a section report as
-- accepted.
use Rattle.std.specs.Prelude.{ℕ, ◌+◌, ◌==◌, if◌then◌else◌, List, [], ◌∷◌, Option, None, Some}

-- the calls of a seat in a part of a history, each with its position in the whole history, counted from 1; `before`
-- entries come before that part
abbrev pub own_at : {Call : Type 0} → ℕ → ℕ → List (ℕ × Call) → List (ℕ × Call)
own_at seat before [] = []
own_at seat before (entry ∷ rest) =
    if entry.0 == seat then (before + 1, entry.1) ∷ own_at seat (before + 1) rest else own_at seat (before + 1) rest

-- the list, with a call and its position put before it if the call was accepted
abbrev pub where_done : {Call : Type 0} → Option ℕ → Call → List (ℕ × Call) → List (ℕ × Call)
where_done None call rest = rest
where_done (Some at) call rest = (at, call) ∷ rest

-- the calls that the answers report as accepted, each with its position
abbrev pub done_at : {Call Answer : Type 0} → (Answer → Option ℕ) → List Call → List Answer → List (ℕ × Call)
done_at reported_position [] answers = []
done_at reported_position (call ∷ calls) [] = []
done_at reported_position (call ∷ calls) (answer ∷ answers) = where_done (reported_position answer) call (done_at reported_position calls answers)
