-- A member of a log: one process that reads it and asks calls over it.
use Rattle.std.specs.Prelude.{◌^◌, ℕ, Bool, true, false, List, [], ◌++◌, Result, Ok, Err, map, take, drop}
use Rattle.camp_object.specs.Asking.{Caller}
use Rattle.camp_object.specs.declared.faults.Fault.{Fault}
use Rattle.camp_object.specs.declared.faults.Fault.TheVariants as object_fault
use Rattle.camp_member.specs.Readings.{Reading}
use Rattle.camp_member.specs.declared.requests.Request.{Request}
use Rattle.camp_member.specs.declared.requests.NoReply.{NoReply}

-- a member: its seat, what it has read of the log, whether it has stopped reading, the waiting requests in order, how
-- many of these are in the entry that it appends, and the answers that nobody has taken, each with the number of its
-- request
pub record Membership (State Call Reply : Type 0) : Type 0 where
  pub seat : ℕ
  pub reading : Reading State Call
  pub is_stopped : Bool
  pub waiting : List (Request Call)
  pub sent : ℕ
  pub answers : List (ℕ × Result Reply NoReply)

-- a new member, which has no request and has read nothing
abbrev pub new_member : {State Call Reply : Type 0} → State → ℕ → Membership State Call Reply
new_member first seat = record {
  seat = seat;
  reading = record { first = first; index = 0; history = []; numbers = [] };
  is_stopped = false;
  waiting = [];
  sent = 0;
  answers = [];
}

-- a member as a caller: it has no limit of accepted calls, and its calls lose no compare-exchange
abbrev pub member_caller : ℕ → Caller
member_caller seat = record { seat = seat; tries = 0; per_seat = 2 ^ 64; alone = false }

-- an answer of a member as one of an object: `NoReply` counts as out of memory, since neither adds a call
abbrev pub as_answer : {Reply : Type 0} → Result Reply NoReply → Result Reply Fault
as_answer (Ok reply) = Ok reply
as_answer (Err why) = Err object_fault.Memory

-- the calls of requests
abbrev pub calls_asked : {Call : Type 0} → List (Request Call) → List Call
calls_asked requests = map (λ request. request.call) requests

module _ {State Call Reply : Type 0} where
  -- the calls in the entry under way
  abbrev pub under_way : Membership State Call Reply → List Call
  under_way member = calls_asked (take member.sent member.waiting)

  -- the member after it has stopped reading: the requests of its entry under way wait like all others
  abbrev pub stopped : Membership State Call Reply → Membership State Call Reply
  stopped member = record member { is_stopped = true; sent = 0 }

  -- the member once all requests of its entry under way are answered with no reply, for this reason
  abbrev pub without_reply : NoReply → Membership State Call Reply → Membership State Call Reply
  without_reply why member = record member {
    waiting = drop member.sent member.waiting;
    sent = 0;
    answers = member.answers ++ map (λ request. (request.id, Err why)) (take member.sent member.waiting);
  }
