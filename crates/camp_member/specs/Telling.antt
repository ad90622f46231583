-- What the answers of a member say of the history that it reads.
use Rattle.std.specs.Prelude.{◌≡◌, ◌≤◌, ℕ, Bool, false, List, [], ◌∷◌, ◌++◌, length, map, Result, Ok, Err, IfOk, IfErr, is_some, if◌then◌else◌}
use Rattle.camp_object.specs.Objects.{Sequential}
use Rattle.camp_object.specs.Histories.{IsBeginning, own}
use Rattle.camp_object.specs.Asking.{Ask}
use Rattle.camp_member.specs.Members.{Membership, as_answer, member_caller}
use Rattle.camp_member.specs.declared.requests.Request.{Request}
use Rattle.camp_member.specs.declared.requests.NoReply.{NoReply}

-- an answered request: the answer, and the history at which it was given
pub record AnsweredRequest (Call Reply : Type 0) : Type 0 where
  pub request : Request Call
  pub answer : Result Reply NoReply
  pub history : List (ℕ × Call)

abbrev pub requests_in : {Call Reply : Type 0} → List (AnsweredRequest Call Reply) → List (Request Call)
requests_in told = map (λ one. one.request) told

abbrev pub answers_in : {Call Reply : Type 0} → List (AnsweredRequest Call Reply) → List (ℕ × Result Reply NoReply)
answers_in told = map (λ one. (one.request.id, one.answer)) told

module _ {State Call Reply : Type 0} (object : Sequential State Call Reply) where
  -- a request of a seat is answered at this history, as `Ask` allows; either the history has at least as many calls as
  -- the request waits for, or there is no reply, for an allowed reason
  pub record IsAnsweredAt (may : Request Call → NoReply → Type 0) (seat : ℕ) (seen : List (ℕ × Call)) (one : AnsweredRequest Call Reply) : Type 0 where
    pub asks : Ask object (member_caller seat) seen one.request.call (as_answer one.answer) one.history
    pub at_least : IfOk one.answer (λ _. one.request.at_least ≤ length one.history)
    pub why : IfErr one.answer (may one.request)

  -- requests of a seat are answered one after another, at histories that lead from the first to the last; no other call
  -- of the seat comes between
  abbrev pub AreAnsweredFrom : (Request Call → NoReply → Type 0) → ℕ → List (ℕ × Call) → List (AnsweredRequest Call Reply) → List (ℕ × Call) → Type 0
  AreAnsweredFrom may seat seen [] now = IsBeginning seen now × (own seat now ≡ own seat seen)
  AreAnsweredFrom may seat seen (one ∷ more) now = IsAnsweredAt may seat seen one × AreAnsweredFrom may seat one.history more now

  -- whether the answer is the reply to an accepted call
  abbrev pub is_done : Result Reply NoReply → Bool
  is_done (Ok reply) = is_some (object.done_at reply)
  is_done (Err why) = false

  -- the calls of those answered requests that were accepted
  abbrev pub accepted_in : List (AnsweredRequest Call Reply) → List Call
  accepted_in [] = []
  accepted_in (one ∷ more) = if is_done one.answer then one.request.call ∷ accepted_in more else accepted_in more

  -- a member advances: it answers its first requests, in order, each once
  pub record MemberAdvances (may : Request Call → NoReply → Type 0) (old new : Membership State Call Reply) : Type 0 where
    pub told : List (AnsweredRequest Call Reply)
    pub seat : new.seat ≡ old.seat
    pub first : new.reading.first ≡ old.reading.first
    pub answers : new.answers ≡ old.answers ++ answers_in told
    pub waiting : old.waiting ≡ requests_in told ++ new.waiting
    pub are : AreAnsweredFrom may old.seat old.reading.history told new.reading.history
