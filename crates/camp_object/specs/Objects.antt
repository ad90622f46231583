-- An object as mathematics: the result of a call in each of its states.
use Rattle.std.specs.Prelude.{◌≡◌, ℕ, ◌+◌, Bool, true, Option, None, Some}

-- an object: its initial state, its transitions and replies, and the positions in its replies
pub record Sequential (State Call Reply : Type 0) : Type 1 where
  -- the initial state
  pub initial : State
  -- the state after a call, if the call is accepted
  pub after : State → Call → Option State
  -- the reply to a call that is not accepted
  pub answers : State → Call → Reply → Type 0
  -- the initial state of the history that led to a state
  pub first : State → State
  -- the number of calls accepted on the way to a state
  pub count : State → ℕ
  -- whether a call writes; one that does not is called a question
  pub is_writing : Call → Bool
  -- the reply to an accepted call, by its position in the history
  pub done : ℕ → Reply
  -- the position in a reply to an accepted call; none in any other reply
  pub done_at : Reply → Option ℕ

-- the object with this initial state instead
abbrev pub begun : {State Call Reply : Type 0} → Sequential State Call Reply → State → Sequential State Call Reply
begun object state = record object { initial = state }

-- the state can be an initial state: no call was accepted on the way to it
pub record IsFirst {State Call Reply : Type 0} (object : Sequential State Call Reply) (state : State) : Type 0 where
  pub none_yet : object.count state ≡ 0
  pub itself : object.first state ≡ state

-- the laws of every object
pub record IsLawfulObject {State Call Reply : Type 0} (object : Sequential State Call Reply) : Type 0 where
  -- in the initial state no call was accepted, and each accepted call counts one
  pub starts : object.count object.initial ≡ 0
  pub counts : (state : State) (call : Call) (next : State)
      → object.after state call ≡ Some next → object.count next ≡ object.count state + 1
  -- the initial state can be one, and no accepted call changes the initial state of a history
  pub begins : object.first object.initial ≡ object.initial
  pub stays : (state : State) (call : Call) (next : State)
      → object.after state call ≡ Some next → object.first next ≡ object.first state
  -- only a writing call is accepted
  pub writes : (state : State) (call : Call) (next : State)
      → object.after state call ≡ Some next → object.is_writing call ≡ true
  -- the reply to an accepted call has its position, and no other reply has one
  pub tells : (at : ℕ) → object.done_at (object.done at) ≡ Some at
  pub tells_exactly : (reply : Reply) (at : ℕ) → object.done_at reply ≡ Some at → reply ≡ object.done at
  pub tells_none : (state : State) (call : Call) (reply : Reply)
      → object.answers state call reply → object.done_at reply ≡ None
