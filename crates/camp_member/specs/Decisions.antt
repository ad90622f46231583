-- Calls that are decided one after another, each after the history of those before it.
use Rattle.std.specs.Prelude.{◌≡◌, ℕ, ◌⊎◌, List, [], ◌∷◌, ◌++◌, length, is_some, if◌then◌else◌}
use Rattle.std.specs.Option.{option_and_then}
use Rattle.camp_object.specs.Objects.{Sequential}
use Rattle.camp_object.specs.Histories.{IsAccepted, IsAnswered, replay}

module _ {State Call Reply : Type 0} (object : Sequential State Call Reply) where
  -- a history and, if a call is accepted after it, that call
  abbrev pub extended : List (ℕ × Call) → ℕ × Call → List (ℕ × Call)
  extended history request =
      if is_some (option_and_then (λ state. object.after state request.1) (replay object history)) then history ++ request ∷ []
      else history

  -- a history, and those calls that are accepted one after another
  abbrev pub accepted_after : List (ℕ × Call) → List (ℕ × Call) → List (ℕ × Call)
  accepted_after history [] = history
  accepted_after history (request ∷ requests) = accepted_after (extended history request) requests

  -- a call is decided after a history: it is accepted, extends the history, and its reply contains its position; or it
  -- is answered, and the history stays
  abbrev pub IsDecided : List (ℕ × Call) → ℕ × Call → Reply → List (ℕ × Call) → Type 0
  IsDecided old request reply new =
      (IsAccepted object old request.1 × (new ≡ old ++ request ∷ []) × (reply ≡ object.done (length new)))
      ⊎ ((new ≡ old) × IsAnswered object old request.1 reply)

  -- calls of a seat are decided one after another, with these replies
  abbrev pub AreDecided : List (ℕ × Call) → ℕ → List Call → List Reply → List (ℕ × Call) → Type 0
  AreDecided old seat [] [] new = new ≡ old
  AreDecided old seat (call ∷ calls) (reply ∷ replies) new =
      (between : List (ℕ × Call)) × IsDecided old (seat, call) reply between × AreDecided between seat calls replies new
  AreDecided old seat _ _ new = ⊥
