-- What a member does with requests, and with what it finds in the log.
use Rattle.std.specs.Prelude.{◌≡◌, ◌≢◌, ◌<◌, ◌≤◌, ◌+◌, ◌⊎◌, ℕ, Bool, true, false, List, [], ◌∷◌, ◌++◌, length, take, Result, Ok, Err, Option, None, Some, IfSome, IsSome}
use Rattle.std.specs.List.{AllByRecursion}
use Rattle.camp_object.specs.Objects.{Sequential}
use Rattle.camp_object.specs.Histories.{IsAccepted, IsAnswered}
use Rattle.camp_member.specs.Entries.{Tagged, IsForeign, most_calls_of_entry, number_in}
use Rattle.camp_member.specs.Members.{Membership, without_reply, stopped, under_way}
use Rattle.camp_member.specs.Readings.{ReadsEntry}
use Rattle.camp_member.specs.declared.faults.ReadFault.{ReadFault}
use Rattle.camp_member.specs.declared.faults.ReadFault.TheVariants.{Memory, OutOfOrder, Foreign}
use Rattle.camp_member.specs.declared.requests.NoReply.{NoReply}
use Rattle.camp_member.specs.declared.requests.NoReply.TheVariants.{Ended, Stopped}
use Rattle.camp_member.specs.declared.requests.Request.{Request}
use Rattle.camp_member.specs.declared.requests.Want.{Want}
use Rattle.camp_member.specs.declared.requests.Want.TheVariants as want

-- the first waiting requests get these answers, in order
abbrev pub given : {Call Reply : Type 0} → List (ℕ × Result Reply NoReply) → List (Request Call) → List Reply → List (ℕ × Result Reply NoReply) × List (Request Call)
given answers waiting [] = (answers, waiting)
given answers [] (reply ∷ replies) = (answers, [])
given answers (request ∷ waiting) (reply ∷ replies) = given (answers ++ (request.id, Ok reply) ∷ []) waiting replies

module _ {State Call Reply : Type 0} (object : Sequential State Call Reply) where
  -- the request waits for more accepted calls
  abbrev pub IsWaiting : List (ℕ × Call) → Request Call → Type 0
  IsWaiting history request = length history < request.at_least

  -- a reason why a request gets no reply: the member has stopped, and the request waits for more accepted calls or its
  -- call would be accepted
  abbrev pub IsStopped : Membership State Call Reply → Request Call → NoReply → Type 0
  IsStopped member request why =
      (why ≡ Stopped) × (member.is_stopped ≡ true) × (IsWaiting member.reading.history request ⊎ IsAccepted object member.reading.history request.call)

  -- the answer to a request, given what the member has read; none if the request has to wait for more calls, or to be
  -- appended
  abbrev pub IsAnswerTo : Membership State Call Reply → Request Call → Option (Result Reply NoReply) → Type 0
  IsAnswerTo member request None =
      (member.is_stopped ≡ false) × (IsWaiting member.reading.history request ⊎ IsAccepted object member.reading.history request.call)
  IsAnswerTo member request (Some (Ok reply)) =
      (request.at_least ≤ length member.reading.history) × IsAnswered object member.reading.history request.call reply
  IsAnswerTo member request (Some (Err why)) = IsStopped member request why

  -- a member without an entry under way can't answer its first request from what was read
  abbrev pub IsAtRest : Membership State Call Reply → Type 0
  IsAtRest member =
      member.sent ≡ 0 → (request : Request Call) (rest : List (Request Call)) → member.waiting ≡ request ∷ rest → IsAnswerTo member request None

  -- requests that fit in one entry: 1 to 256 of them, all of calls that write, none of which waits for more calls than
  -- were read
  pub record FitsEntry (history : List (ℕ × Call)) (requests : List (Request Call)) : Type 0 where
    pub some : 0 < length requests
    pub few : length requests ≤ most_calls_of_entry
    pub writing : AllByRecursion (λ request. object.is_writing request.call ≡ true) requests
    pub ready : AllByRecursion (λ request. request.at_least ≤ length history) requests

  -- what a member wants of its log: nothing if no request waits; to read on if the first request waits for more
  -- accepted calls; else to append the entry with the next number of its seat
  abbrev pub WantsOfLog : Want Call → Membership State Call Reply → Type 0
  WantsOfLog want.Nothing member = (member.waiting ≡ []) × (member.sent ≡ 0)
  WantsOfLog (want.Read from) member =
      (from ≡ member.reading.index) × (member.sent ≡ 0) × (member.is_stopped ≡ false)
      × ((request : Request Call) × (rest : List (Request Call)) × (member.waiting ≡ request ∷ rest) × IsWaiting member.reading.history request)
  WantsOfLog (want.Append entry) member =
      (entry.seat ≡ member.seat) × (entry.number ≡ number_in member.reading.numbers member.seat + 1)
      × (entry.calls ≡ under_way member) × FitsEntry member.reading.history (take member.sent member.waiting)

  -- a member begins to append only if it has not stopped and its first request's call is accepted at what was read
  abbrev pub IsNeeded : Want Call → Membership State Call Reply → Type 0
  IsNeeded want.Nothing member = Unit {0}
  IsNeeded (want.Read from) member = Unit {0}
  IsNeeded (want.Append entry) member =
      (member.is_stopped ≡ false)
      × ((request : Request Call) × (rest : List (Request Call)) × (member.waiting ≡ request ∷ rest) × IsAccepted object member.reading.history request.call)

  -- an entry of the member's seat with a new number
  abbrev pub IsOwn : Membership State Call Reply → Tagged Call → Type 0
  IsOwn member entry = (entry.seat ≡ member.seat) × (number_in member.reading.numbers member.seat < entry.number)

  -- an entry was found that is of the member's seat and has a new number
  abbrev pub HasOwn : Membership State Call Reply → Option (Tagged Call) → Type 0
  HasOwn member None = ⊥
  HasOwn member (Some entry) = IsOwn member entry

  -- an entry of the member's seat with a new number, which the member does not append: another process uses its seat
  abbrev pub IsAlien : Membership State Call Reply → Option (Tagged Call) → Type 0
  IsAlien member None = ⊥
  IsAlien member (Some entry) = IsOwn member entry × (entry.calls ≢ under_way member)

  -- whether what was found is an entry of another process with the member's seat
  abbrev pub TellsAlien : Membership State Call Reply → Option (Tagged Call) → Bool → Type 0
  TellsAlien member found true = IsAlien member found
  TellsAlien member found false = HasOwn member found → IfSome found (λ entry. entry.calls ≡ under_way member)

  -- the entry that the member appends is found: its requests get the replies that its calls get there
  pub record FindsOwn (old : Membership State Call Reply) (entry : Tagged Call) (replies : List Reply) (new : Membership State Call Reply) : Type 0 where
    pub own : IsOwn old entry
    pub calls : entry.calls ≡ under_way old
    pub given : (new.answers, new.waiting) ≡ given old.answers old.waiting replies
    pub sent : new.sent ≡ 0

  -- an entry of another member is found, or one whose tag counted before
  pub record FindsOther (old : Membership State Call Reply) (entry : Tagged Call) (new : Membership State Call Reply) : Type 0 where
    pub other : ¬ (IsOwn old entry)
    pub answers : new.answers ≡ old.answers
    pub waiting : new.waiting ≡ old.waiting
    pub sent : new.sent ≡ old.sent

  -- an entry is read at its index of the log
  pub record FindsEntry (old : Membership State Call Reply) (entry : Tagged Call) (new : Membership State Call Reply) : Type 0 where
    pub replies : List Reply
    pub reads : ReadsEntry object old.reading entry replies new.reading
    pub seat : new.seat ≡ old.seat
    pub is_stopped : new.is_stopped ≡ old.is_stopped
    pub effect : FindsOwn old entry replies new ⊎ FindsOther old entry new

  -- what is foreign stops a member; after any other fault it is unchanged
  abbrev pub StopsWhenForeign : ReadFault → Membership State Call Reply → Membership State Call Reply → Type 0
  StopsWhenForeign Memory old new = new ≡ old
  StopsWhenForeign (OutOfOrder next) old new = new ≡ old
  StopsWhenForeign (Foreign at) old new = new ≡ stopped old

  -- a member finds what is at an index of the log: it has read it before, or reads it now, or is stopped by it
  abbrev pub FindsAt : Membership State Call Reply → ℕ → Option (Tagged Call) → Result (Unit {0}) ReadFault → Membership State Call Reply → Type 0
  FindsAt old index found (Ok done) new =
      ((index < old.reading.index) × (new ≡ old))
      ⊎ ((index ≡ old.reading.index) × (old.is_stopped ≡ false) × IfSome found (λ entry. FindsEntry old entry new) × IsSome found)
  FindsAt old index found (Err Memory) new = new ≡ old
  FindsAt old index found (Err (OutOfOrder next)) new = (next ≡ old.reading.index) × (next < index) × (new ≡ old)
  FindsAt old index found (Err (Foreign at)) new =
      (at ≡ old.reading.index) × (at ≡ index) × (new ≡ stopped old)
      × ((old.is_stopped ≡ true) ⊎ IsForeign (number_in old.reading.numbers) found ⊎ IsAlien old found)

  -- a log ends at an index up to which a member has read it, and its first request waits for more: the request gets no
  -- reply
  pub record WaitsAtEnd (old : Membership State Call Reply) (index : ℕ) (request : Request Call) (rest : List (Request Call)) : Type 0 where
    pub at : index ≡ old.reading.index
    pub none_sent : old.sent ≡ 0
    pub reads : old.is_stopped ≡ false
    pub first : old.waiting ≡ request ∷ rest
    pub waits : IsWaiting old.reading.history request

  abbrev pub AfterEnd : Membership State Call Reply → ℕ → Membership State Call Reply → Type 0
  AfterEnd old index new =
      ((request : Request Call) × (rest : List (Request Call)) × WaitsAtEnd old index request rest × (new ≡ without_reply Ended (record old { sent = 1 })))
      ⊎ (((request : Request Call) (rest : List (Request Call)) → ¬ (WaitsAtEnd old index request rest)) × (new ≡ old))
