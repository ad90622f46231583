-- Histories of an object: the accepted calls in order, each with the number of the seat that asked it.
use Rattle.std.specs.Prelude.{◌≡◌, ℕ, List, [], ◌∷◌, ◌++◌, Option, None, Some, IsSome, ◌==◌, if◌then◌else◌}
use Rattle.std.specs.Option.{option_and_then}
use Rattle.camp_object.specs.Objects.{Sequential}

-- one list is a prefix of another
pub record IsBeginning {Entry : Type 0} (beginning whole : List Entry) : Type 0 where
  pub rest : List Entry
  pub makes : beginning ++ rest ≡ whole

-- the calls of a seat, in order
abbrev pub own : {Call : Type 0} → ℕ → List (ℕ × Call) → List Call
own seat [] = []
own seat (entry ∷ entries) = if entry.0 == seat then entry.1 ∷ own seat entries else own seat entries

module _ {State Call Reply : Type 0} (object : Sequential State Call Reply) where
  -- the state that calls lead to from a state, if each of them is accepted
  abbrev pub run : Option State → List (ℕ × Call) → Option State
  run state [] = state
  run state (entry ∷ entries) = run (option_and_then (λ s. object.after s entry.1) state) entries

  -- the state after a history, if the history is legal
  abbrev pub replay : List (ℕ × Call) → Option State
  replay history = run (Some object.initial) history

  -- a history is legal: each call is accepted at the replay of the calls before it
  abbrev pub IsLegal : List (ℕ × Call) → Type 0
  IsLegal history = IsSome (replay history)

  -- the call is accepted at the replay of the history
  abbrev pub IsAccepted : List (ℕ × Call) → Call → Type 0
  IsAccepted history call = IsSome (option_and_then (λ state. object.after state call) (replay history))

  -- the call is not accepted at the replay of the history, and this is the reply to it
  pub record IsAnswered (history : List (ℕ × Call)) (call : Call) (reply : Reply) : Type 0 where
    pub state : State
    pub replays : replay history ≡ Some state
    pub stays : object.after state call ≡ None
    pub gives : object.answers state call reply
