-- Groups of requests: what was read and executed before a commit.
use Rattle.std.specs.Prelude.{◌≡◌, ◌<◌, ℕ, List, [], ◌∷◌, ◌++◌, Option, None, Some, Result, Ok, Err, flat_map, length}
use Rattle.std.specs.Io.KnownBytes.{Consumes}
use Rattle.camp_talk.specs.declared.engine.backends.Backend as backends
use Rattle.camp_talk.specs.declared.engine.framings.Framing as framings
use Rattle.camp_talk.specs.declared.engine.groups.GroupLimits.{GroupLimits}
use Rattle.camp_talk.specs.declared.engine.groups.Halt.{Halt}
use Rattle.camp_talk.specs.declared.engine.groups.Halt.TheVariants as halt

-- a request, the bytes that it was read from, and its response
pub record Step (Q A : Type 0) : Type 0 where
  pub request : Q
  pub bytes : List ℕ
  pub response : A

-- a fact holds unless a list of steps is empty
abbrev pub IfSteps : {X : Type 0} → List X → Type 0 → Type 0
IfSteps [] fact = Unit {0}
IfSteps (step ∷ steps) fact = fact

-- a list of steps is not empty
abbrev pub HasSteps : {X : Type 0} → List X → Type 0
HasSteps [] = ⊥
HasSteps (step ∷ steps) = Unit {0}

-- given the relations of a backend and of a framing
module _ {B F Q A E C H : Type 0} (backend : backends.Ghosts B Q A E C) (framing : framings.Ghosts F Q A H) where
  -- a request was read, and then executed with this result
  pub record Executes (before : B) (from : F) (request : Q) (bytes : List ℕ) (result : Result A E) (after : B) (to : F) : Type 0 where
    pub reads : framing.reads from request bytes to
    pub consumes : Consumes (framing.remaining from) (framing.remaining to) bytes
    pub executes : backend.executes before request result after

  -- the bytes that are written for the responses, in order
  abbrev pub responses : List (Step Q A) → List ℕ
  responses steps = flat_map (λ step. framing.renders step.response) steps

  -- a group may take one more request while these bytes are pending: a complete one was read ahead, and the calls to
  -- commit and the pending bytes are within the limits
  pub record MayGoOn (limits : GroupLimits) (it : B) (at : F) (pending : List ℕ) : Type 0 where
    pub ready : framing.ready at
    pub calls : backend.waiting it < limits.calls
    pub bytes : length pending < limits.bytes

  -- requests were read and executed one after the other, beginning with these pending bytes; before each but the first
  -- the group could take one more
  abbrev pub ExecutesInOrder : GroupLimits → B → F → List ℕ → List (Step Q A) → B → F → Type 0
  ExecutesInOrder limits before from pending [] after to = (before ≡ after) × (from ≡ to)
  ExecutesInOrder limits before from pending (step ∷ steps) after to =
      (next : B) × (on : F) × Executes before from step.request step.bytes (Ok step.response) next on
      × IfSteps steps (MayGoOn limits next on (pending ++ framing.renders step.response))
      × ExecutesInOrder limits next on (pending ++ framing.renders step.response) steps after to

  -- requests were read and executed, and these bytes are written for their responses
  pub record Gathered (limits : GroupLimits) (before : B) (from : F) (after : B) (to : F) (text : List ℕ) : Type 0 where
    pub steps : List (Step Q A)
    pub follows : ExecutesInOrder limits before from [] steps after to
    pub text_is : text ≡ responses steps

  -- some request was read, and then executed with this result
  pub record ExecutesOne (before : B) (from : F) (result : Result A E) (after : B) (to : F) : Type 0 where
    pub request : Q
    pub bytes : List ℕ
    pub is : Executes before from request bytes result after to

  -- why a group has ended: a commit is due before more is read; the input has ended; a request could not be read or not
  -- be executed; or this response, of one that was executed, could not be buffered
  abbrev pub Halts : B → F → Halt A E H → B → F → Type 0
  Halts before from halt.Pause after to = (before ≡ after) × (from ≡ to)
  Halts before from halt.End after to = (before ≡ after) × framing.ends from to
  Halts before from (halt.Read why) after to = (before ≡ after) × framing.breaks from why to
  Halts before from (halt.Execute why) after to = ExecutesOne before from (Err why) after to
  Halts before from (halt.Unbuffered response) after to = ExecutesOne before from (Ok response) after to

  -- a group that ends with a pause has a request; any other group ended when it could take one more
  abbrev pub IsOver : Halt A E H → List (Step Q A) → Type 0 → Type 0
  IsOver halt.Pause steps goes_on = HasSteps steps
  IsOver halt.End steps goes_on = IfSteps steps goes_on
  IsOver (halt.Read why) steps goes_on = IfSteps steps goes_on
  IsOver (halt.Execute why) steps goes_on = IfSteps steps goes_on
  IsOver (halt.Unbuffered response) steps goes_on = IfSteps steps goes_on

  -- a group: requests were read and executed, these bytes are written for their responses, and then it ended for this
  -- reason
  pub record RunsGroup (limits : GroupLimits) (before : B) (from : F) (why : Halt A E H) (after : B) (to : F) (text : List ℕ) : Type 0 where
    pub middle : B
    pub at : F
    pub gathered : Gathered limits before from middle at text
    pub halts : Halts middle at why after to
    pub is_over : IsOver why gathered.steps (MayGoOn limits middle at text)

  -- a group has ended for another reason than a pause
  abbrev pub IsNoPause : Halt A E H → Type 0
  IsNoPause halt.Pause = ⊥
  IsNoPause halt.End = Unit {0}
  IsNoPause (halt.Read why) = Unit {0}
  IsNoPause (halt.Execute why) = Unit {0}
  IsNoPause (halt.Unbuffered response) = Unit {0}

  -- None: a request was read and executed, and exactly its response was added to the pending bytes. Some: the group has
  -- ended for this reason, and the pending bytes are unchanged.
  abbrev pub TakesOne : B → F → List ℕ → Option (Halt A E H) → B → F → List ℕ → Type 0
  TakesOne before from old None after to new =
      (step : Step Q A) × Executes before from step.request step.bytes (Ok step.response) after to
      × (new ≡ old ++ framing.renders step.response)
  TakesOne before from old (Some why) after to new = IsNoPause why × Halts before from why after to × (new ≡ old)
