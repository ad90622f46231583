-- Steps by which a member answers the requests that it can answer.
use Rattle.std.specs.Prelude.{◌≡◌, ◌<◌, ◌≤◌, ℕ, Bool, true, false, List, [], ◌∷◌, ◌++◌, length, Result, Some}
use Rattle.camp_object.specs.Objects.{Sequential}
use Rattle.camp_object.specs.Histories.{IsAccepted}
use Rattle.camp_member.specs.Members.{Membership}
use Rattle.camp_member.specs.Wanting.{WaitsAtEnd, IsAnswerTo, IsWaiting}
use Rattle.camp_member.specs.declared.requests.NoReply.{NoReply}
use Rattle.camp_member.specs.declared.requests.Request.{Request}
use Rattle.camp_member.specs.declared.wanting.Next.{Next}
use Rattle.camp_member.specs.declared.wanting.Next.TheVariants.{Answers, Rests}
use Rattle.camp_member.specs.declared.wanting.Rest.{Rest}
use Rattle.camp_member.specs.declared.wanting.Rest.TheVariants.{Nothing, Waits, Sends, UnderWay}

module _ {State Call Reply : Type 0} (object : Sequential State Call Reply) where
  -- the first request is answered from what was read
  pub record AnswersFirst (old new : Membership State Call Reply) : Type 0 where
    pub request : Request Call
    pub answer : Result Reply NoReply
    pub none_sent : old.sent ≡ 0
    pub is : IsAnswerTo object old request (Some answer)
    pub waiting : old.waiting ≡ request ∷ new.waiting
    pub answers : new.answers ≡ old.answers ++ (request.id, answer) ∷ []
    pub seat : new.seat ≡ old.seat
    pub reading : new.reading ≡ old.reading
    pub is_stopped : new.is_stopped ≡ old.is_stopped
    pub sent : new.sent ≡ old.sent

  -- what a member needs from its log: nothing if no request waits; more accepted calls if the first request waits for
  -- them; an append if the first request's call is accepted after what was read; or the entry under way, until it is
  -- found
  abbrev pub IsRest : Membership State Call Reply → Rest → Type 0
  IsRest member Nothing = (member.sent ≡ 0) × (member.waiting ≡ [])
  IsRest member Waits =
      (member.sent ≡ 0) × (member.is_stopped ≡ false)
      × ((request : Request Call) × (rest : List (Request Call)) × (member.waiting ≡ request ∷ rest) × IsWaiting object member.reading.history request)
  IsRest member Sends =
      (member.sent ≡ 0) × (member.is_stopped ≡ false)
      × ((request : Request Call) × (rest : List (Request Call)) × (member.waiting ≡ request ∷ rest) × (request.at_least ≤ length member.reading.history)
      × IsAccepted object member.reading.history request.call × (object.is_writing request.call ≡ true))
  IsRest member UnderWay = 0 < member.sent

  -- the next step of a member: it answers its first request, or waits until the log gives it what it needs
  abbrev pub IsNext : Membership State Call Reply → Next Reply → Type 0
  IsNext member (Answers answer) =
      (member.sent ≡ 0)
      × ((request : Request Call) × (rest : List (Request Call)) × (member.waiting ≡ request ∷ rest) × IsAnswerTo object member request (Some answer))
  IsNext member (Rests rest) = IsRest member rest

  -- whether the first request waits for more calls than a log has that ends at this index
  abbrev pub TellsEnd : Membership State Call Reply → ℕ → Bool → Type 0
  TellsEnd member index true = (request : Request Call) × (rest : List (Request Call)) × WaitsAtEnd object member index request rest
  TellsEnd member index false = (request : Request Call) (rest : List (Request Call)) → ¬ (WaitsAtEnd object member index request rest)
