-- Definitions that only private functions and models use.
use Rattle.std.specs.Prelude.{◌<◌, ◌≤◌, ◌+◌, ◌^◌, ℕ, List, length, take}
use Rattle.std.specs.List.{AllByRecursion, flat_map}
use Rattle.camp_call.specs.declared.calls.Call.{Call}
use Rattle.camp_entries.specs.Texts.{IsNoted, noted_text}
use Rattle.camp_member.specs.Members.{calls_asked}
use Rattle.camp_member.specs.Notes.{WithNote}
use Rattle.camp_member.specs.declared.requests.Request.{Request}
use Rattle.camp_shared.specs.Sharing.{Sharing, most_bytes_of_calls}

-- a request for a call that a log can contain and that fits in an entry
abbrev pub CanBeAsked : Request (WithNote Call) → Type 0
CanBeAsked request = IsNoted request.call × (length (noted_text request.call) ≤ most_bytes_of_calls)

-- the number of bytes of the calls of requests, with their notes
abbrev pub bytes_asked : List (Request (WithNote Call)) → ℕ
bytes_asked requests = length (flat_map noted_text (calls_asked requests))

-- each waiting request fits in an entry, and so do those under way together; the next index of the log fits in a
-- `usize`
pub record HasRoomForTexts (member : Sharing) : Type 0 where
  pub index : member.reading.index + 1 < 2 ^ 64
  pub each : AllByRecursion CanBeAsked member.waiting
  pub together : bytes_asked (take member.sent member.waiting) ≤ most_bytes_of_calls

-- this number of first requests fits in an entry together
pub record AreFitting (waiting : List (Request (WithNote Call))) (count : ℕ) : Type 0 where
  pub within : count ≤ length waiting
  pub together : bytes_asked (take count waiting) ≤ most_bytes_of_calls
  pub some : 0 < length waiting → 0 < count
