-- The repository as an object that one thread owns.
use Rattle.std.specs.Prelude.{◌≡◌, ℕ, List, [], ◌∷◌, Option, None, Some}
use Rattle.camp_call.specs.Calls.{is_writing}
use Rattle.camp_call.specs.declared.calls.Call.{Call}
use Rattle.camp_call.specs.declared.replies.Reply.{Reply}
use Rattle.camp_call.specs.declared.replies.Reply.TheVariants as reply
use Rattle.camp_object.specs.Objects.{Sequential}
use Rattle.camp_object.specs.declared.objects.Decided.TheVariants.{Next, Answer}
use Rattle.camp_repo.specs.Limits.{Bounds, default_bounds}
use Rattle.camp_repo.specs.States.{Contents, new_within}
use Rattle.camp_repo.specs.Steps.{Decision, step}

-- the state after a decision, if it accepts the call
abbrev pub next_of : Decision → Option Contents
next_of (Next state) = Some state
next_of (Answer answer) = None

-- the number in a reply to an accepted call; none in others
abbrev pub reply_number : Reply → Option ℕ
reply_number (reply.Done at) = Some at
reply_number (reply.Refused refusal) = None
reply_number (reply.Tree tree) = None
reply_number (reply.Conflicts pairs) = None
reply_number (reply.Names names) = None

-- a repository with these limits as an object; it accepts a call exactly if the decision on it is a next state
abbrev pub repository_within : Bounds → Sequential Contents Call Reply
repository_within limits = record {
  initial = new_within limits;
  after = λ state call. next_of (step state call);
  answers = λ state call answer. step state call ≡ Answer answer;
  first = λ state. new_within state.limits;
  count = λ state. state.count;
  is_writing = is_writing;
  done = reply.Done;
  done_at = reply_number;
}

-- a repository with the default limits, as an object
abbrev pub repository : Sequential Contents Call Reply
repository = repository_within default_bounds

-- the reply for a decision; one to an accepted call contains the number of the call
abbrev pub reply_of : Decision → Reply
reply_of (Next state) = reply.Done state.count
reply_of (Answer answer) = answer

-- the state after a decision
abbrev pub state_after_decision : Contents → Decision → Contents
state_after_decision state (Next next) = next
state_after_decision state (Answer answer) = state

-- the state after a list of calls, some of which may be refused
abbrev pub state_after : Contents → List Call → Contents
state_after state [] = state
state_after state (call ∷ calls) = state_after (state_after_decision state (step state call)) calls

-- the replies to a list of calls
abbrev pub replies_to : Contents → List Call → List Reply
replies_to state [] = []
replies_to state (call ∷ calls) = reply_of (step state call) ∷ replies_to (state_after_decision state (step state call)) calls
