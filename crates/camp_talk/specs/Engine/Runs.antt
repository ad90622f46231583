-- A conversation: groups of requests, each committed before its responses are written.
use Rattle.std.specs.Prelude.{◌≡◌, ◌-◌, ◌^◌, ℕ, List, [], ◌∷◌, length, Option, Result, Ok, Err, flat_map}
use Rattle.std.specs.Io.KnownBytes.{Appends, Consumes, Keeps}
use Rattle.camp_talk.specs.Engine.Groups.{ExecutesInOrder, HasSteps, RunsGroup, Step, responses}
use Rattle.camp_talk.specs.Talks.{AppendsSome}
use Rattle.camp_talk.specs.declared.engine.backends.Backend as backends
use Rattle.camp_talk.specs.declared.engine.framings.Framing as framings
use Rattle.camp_talk.specs.declared.engine.groups.GroupLimits.{GroupLimits}
use Rattle.camp_talk.specs.declared.engine.groups.Halt.{Halt}
use Rattle.camp_talk.specs.declared.engine.groups.Halt.TheVariants as halt
use Rattle.camp_talk.specs.declared.engine.runs.Stop.{Stop}
use Rattle.camp_talk.specs.declared.engine.runs.Stop.TheVariants as stop

-- the result for pending responses. Ok: everything was committed, and exactly these responses were written. Commit: the
-- commit failed, and nothing was written. Write: everything was committed, and a prefix of the responses was written.
module _ {B Q A C E H : Type 0} (backend : backends.Ghosts B Q A E C) where
  abbrev pub FlushesGroup : B → List ℕ → Option (List ℕ) → Result (Unit {0}) (Stop C E H) → B → Option (List ℕ) → Type 0
  FlushesGroup before text old (Ok done) after new = backend.commits before (Ok tt) after × Appends old new text
  FlushesGroup before text old (Err (stop.Commit why)) after new = backend.commits before (Err why) after × Keeps old new
  FlushesGroup before text old (Err (stop.Write error)) after new = backend.commits before (Ok tt) after × AppendsSome old new text
  FlushesGroup before text old (Err (stop.Read why)) after new = ⊥
  FlushesGroup before text old (Err (stop.Execute why)) after new = ⊥
  FlushesGroup before text old (Err stop.Internal) after new = ⊥

module _ {B F Q A C E H : Type 0} (backend : backends.Ghosts B Q A E C) (framing : framings.Ghosts F Q A H) (limits : GroupLimits) where
  -- groups of requests were read and executed, each committed before the next one began; none is empty
  abbrev pub Commits : B → F → List (List (Step Q A)) → B → F → Type 0
  Commits before from [] after to = (before ≡ after) × (from ≡ to)
  Commits before from (steps ∷ groups) after to =
      (executed next : B) × (on : F) × HasSteps steps × ExecutesInOrder backend framing limits before from [] steps executed on
      × backend.commits executed (Ok tt) next × Commits next on groups after to

  -- groups were executed and committed; exactly the bytes of their requests were read, and exactly their responses were
  -- written
  pub record HasRun (first : B) (from : F) (old : Option (List ℕ)) (last : B) (at : F) (new : Option (List ℕ)) : Type 0 where
    pub groups : List (List (Step Q A))
    pub commits : Commits first from groups last at
    pub reads : Consumes (framing.remaining from) (framing.remaining at) (flat_map (λ steps. flat_map (λ step. step.bytes) steps) groups)
    pub writes : Appends old new (flat_map (λ steps. responses backend framing steps) groups)

  -- after groups that were committed and written comes a last group, which ended for this reason
  pub record EndsAfterGroup (why : Halt A E H) (result : Result (Unit {0}) (Stop C E H)) (first : B) (from : F) (old : Option (List ℕ)) (last : B) (to : F)
      (new : Option (List ℕ)) : Type 0 where
    pub begun : B
    pub at : F
    pub held : Option (List ℕ)
    pub earlier : HasRun first from old begun at held
    pub executed : B
    pub text : List ℕ
    pub gathers : RunsGroup backend framing limits begun at why executed to text
    pub flushes : FlushesGroup backend executed text held result last new

  -- the same, for some last group
  pub record StopsAfterGroup (result : Result (Unit {0}) (Stop C E H)) (first : B) (from : F) (old : Option (List ℕ)) (last : B) (to : F)
      (new : Option (List ℕ)) : Type 0 where
    pub why : Halt A E H
    pub ends : EndsAfterGroup why result first from old last to new

  -- a conversation. Ok: the input has ended, everything is committed, and all responses were written. Commit: a commit
  -- failed, and no response of its group was written. Write: the last group is committed, and a prefix of its responses
  -- was written. Read, Execute: no request could be read, or one was not executed; everything is committed, and all
  -- other responses were written. Internal: there were 2^64 - 1 groups.
  abbrev pub RunsAll : B → F → Option (List ℕ) → Result (Unit {0}) (Stop C E H) → B → F → Option (List ℕ) → Type 0
  RunsAll first from old (Ok done) last to new = EndsAfterGroup halt.End (Ok done) first from old last to new
  RunsAll first from old (Err (stop.Commit why)) last to new = StopsAfterGroup (Err (stop.Commit why)) first from old last to new
  RunsAll first from old (Err (stop.Write error)) last to new = StopsAfterGroup (Err (stop.Write error)) first from old last to new
  RunsAll first from old (Err (stop.Read why)) last to new = EndsAfterGroup (halt.Read why) (Ok tt) first from old last to new
  RunsAll first from old (Err (stop.Execute why)) last to new = EndsAfterGroup (halt.Execute why) (Ok tt) first from old last to new
  RunsAll first from old (Err stop.Internal) last to new =
      (done : HasRun first from old last to new) × (length done.groups ≡ 2 ^ 64 - 1)

-- what is durable after groups: what was so at first or, once a group was written, everything
abbrev pub durable_after : {X C : Type 0} → List X → C → C → C
durable_after [] stored contents = stored
durable_after (group ∷ groups) stored contents = contents

-- a fact holds unless a commit failed
abbrev pub UnlessCommitFails : {C E H : Type 0} → Result (Unit {0}) (Stop C E H) → Type 0 → Type 0
UnlessCommitFails (Err (stop.Commit why)) fact = Unit {0}
UnlessCommitFails other fact = fact

-- given contents that are durable at first: everything is durable after groups whose responses were written, and after
-- each conversation in which no commit failed. Before a commit that failed, what those groups left was durable.
pub record ResponsesAreDurable {B F Q A C E H : Type 0} (backend : backends.Ghosts B Q A E C) (framing : framings.Ghosts F Q A H) : Type 0 where
  pub groups : (limits : GroupLimits) (first : B) (from : F) (old : Option (List ℕ)) (last : B) (at : F) (new : Option (List ℕ))
      (run : HasRun backend framing limits first from old last at new) (stored : backend.Contents) → backend.persists stored first
      → backend.persists (durable_after run.groups stored (backend.contents last)) last
  pub all : (limits : GroupLimits) (first : B) (from : F) (old : Option (List ℕ)) (result : Result (Unit {0}) (Stop C E H)) (last : B) (to : F) (new : Option (List ℕ))
      → RunsAll backend framing limits first from old result last to new → (stored : backend.Contents) → backend.persists stored first
      → UnlessCommitFails result (backend.persists (backend.contents last) last)
  pub failed : (limits : GroupLimits) (first : B) (from : F) (old : Option (List ℕ)) (why : C) (last : B) (to : F) (new : Option (List ℕ))
      (stops : StopsAfterGroup backend framing limits (Err (stop.Commit why)) first from old last to new) (stored : backend.Contents) → backend.persists stored first
      → backend.persists (durable_after stops.ends.earlier.groups stored (backend.contents stops.ends.begun)) stops.ends.executed
