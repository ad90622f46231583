-- Calls of an entry, decided before any of them is added to the history.
use Rattle.std.specs.Prelude.{◌≡◌, ℕ, ◌+◌, ◌⊎◌, List, [], ◌∷◌, ◌++◌, length, Option, None, Some}
use Rattle.std.specs.Option.{unwrap_or}
use Rattle.camp_object.specs.Objects.{Sequential}
use Rattle.camp_object.specs.Histories.{replay}
use Rattle.camp_member.specs.Decisions.{AreDecided}

-- a draft: the state after the accepted calls if there are any, these calls, and the replies to all
pub record Drafted (State Call Reply : Type 0) : Type 0 where
  pub next : Option State
  pub accepted : List (ℕ × Call)
  pub replies : List Reply

module _ {State Call Reply : Type 0} (object : Sequential State Call Reply) (begun : State) (before : ℕ) where
  -- the draft's state counts one more call for each accepted call of the draft
  abbrev pub CountsEach : Drafted State Call Reply → Type 0
  CountsEach draft = object.count (unwrap_or draft.next begun) ≡ before + length draft.accepted

  -- the draft after one more call that is accepted; the reply contains its position
  pub record AcceptsOne (old : Drafted State Call Reply) (seat : ℕ) (call : Call) (new : Drafted State Call Reply) : Type 0 where
    pub state : State
    pub after : object.after (unwrap_or old.next begun) call ≡ Some state
    pub next : new.next ≡ Some state
    pub accepted : new.accepted ≡ old.accepted ++ (seat, call) ∷ []
    pub replies : new.replies ≡ old.replies ++ object.done (before + length old.accepted + 1) ∷ []

  -- the draft after one more call that is not accepted
  pub record AnswersOne (old : Drafted State Call Reply) (seat : ℕ) (call : Call) (new : Drafted State Call Reply) : Type 0 where
    pub reply : Reply
    pub stays : object.after (unwrap_or old.next begun) call ≡ None
    pub gives : object.answers (unwrap_or old.next begun) call reply
    pub next : new.next ≡ old.next
    pub accepted : new.accepted ≡ old.accepted
    pub replies : new.replies ≡ old.replies ++ reply ∷ []

  abbrev pub DecidesOne : Drafted State Call Reply → ℕ → Call → Drafted State Call Reply → Type 0
  DecidesOne old seat call new = AcceptsOne old seat call new ⊎ AnswersOne old seat call new

  -- the draft of some calls is right for every history that leads to the state in which they are decided
  abbrev pub DraftsAll : ℕ → List Call → Drafted State Call Reply → Type 0
  DraftsAll seat calls draft =
      (history : List (ℕ × Call)) → replay object history ≡ Some begun → length history ≡ before
      → (replay object (history ++ draft.accepted) ≡ Some (unwrap_or draft.next begun))
      × AreDecided object history seat calls draft.replies (history ++ draft.accepted)
