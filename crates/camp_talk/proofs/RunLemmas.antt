-- Conversations grow by a group.
use Rattle.std.proofs.Common.{◌≡◌, ℕ, ◌+◌, ◌-◌, ◌^◌, List, [], ◌∷◌, ◌++◌, length, Option, Result, Ok, Err, refl, sym, ◌∙◌, ap, subst, append-nil, append_assoc, arith, length-append, flat_map}
use Rattle.std.proofs.KnownBytes.{Appends-nil, Appends-trans, Consumes-nil, Consumes-trans}
use Rattle.std.proofs.lemmas.Grind.{flat_map-append}
use Rattle.std.specs.Io.KnownBytes.{Appends, Consumes}
use Rattle.camp_talk.specs.Engine.Groups.{ExecutesInOrder, Halts, HasSteps, RunsGroup, Step, responses}
use Rattle.camp_talk.specs.Engine.Runs.{Commits, EndsAfterGroup, FlushesGroup, HasRun, ResponsesAreDurable, RunsAll, UnlessCommitFails, durable_after}
use Rattle.camp_talk.specs.Talks.{AppendsSome}
use Rattle.camp_talk.specs.declared.engine.backends.Backend as backends
use Rattle.camp_talk.specs.declared.engine.framings.Framing as framings
use Rattle.camp_talk.specs.declared.engine.groups.GroupLimits.{GroupLimits}
use Rattle.camp_talk.specs.declared.engine.groups.Halt.{Halt}
use Rattle.camp_talk.specs.declared.engine.groups.Halt.TheVariants as halt
use Rattle.camp_talk.specs.declared.engine.runs.Stop.{Stop}
use Rattle.camp_talk.specs.declared.engine.runs.Stop.TheVariants as stop

module _ {B F Q A C E H : Type 0} (backend : backends.Ghosts B Q A E C) (framing : framings.Ghosts F Q A H) (limits : GroupLimits) where
  commits_more : (first : B) (from : F) (groups : List (List (Step Q A))) (begun : B) (at : F) (steps : List (Step Q A)) (executed : B) (to : F) (last : B)
      → Commits backend framing limits first from groups begun at → HasSteps steps → ExecutesInOrder backend framing limits begun at [] steps executed to → backend.commits executed (Ok tt) last
      → Commits backend framing limits first from (groups ++ steps ∷ []) last to
  commits_more first from [] begun at steps executed to last (same, same_too) some follows committed = (
    executed,
    last,
    to,
    some,
    subst (λ (b : B). ExecutesInOrder backend framing limits b from [] steps executed to) (sym same)
        (subst (λ (f : F). ExecutesInOrder backend framing limits begun f [] steps executed to) (sym same_too) follows),
    committed,
    (refl, refl),
  )
  commits_more first from (group ∷ groups) begun at steps executed to last (done, next, on, several, follow, settled, more) some follows committed =
      (done, next, on, several, follow, settled, commits_more next on groups begun at steps executed to last more some follows committed)

  pub follows_read : (before : B) (from : F) (pending : List ℕ) (steps : List (Step Q A)) (after : B) (to : F)
      → ExecutesInOrder backend framing limits before from pending steps after to
      → Consumes (framing.remaining from) (framing.remaining to) (flat_map (λ (step : Step Q A). step.bytes) steps)
  follows_read before from pending [] after to (same, same_too) =
      subst (λ (f : F). Consumes (framing.remaining from) (framing.remaining f) []) same_too (Consumes-nil (framing.remaining from))
  follows_read before from pending (step ∷ steps) after to (next, on, one, ahead, more) =
      Consumes-trans (framing.remaining from) (framing.remaining on) (framing.remaining to) step.bytes (flat_map (λ (s : Step Q A). s.bytes) steps)
      one.consumes (follows_read next on (pending ++ framing.renders step.response) steps after to more)

  commits_read : (first : B) (from : F) (groups : List (List (Step Q A))) (last : B) (to : F) → Commits backend framing limits first from groups last to
      → Consumes (framing.remaining from) (framing.remaining to) (flat_map (λ (steps : List (Step Q A)). flat_map (λ (step : Step Q A). step.bytes) steps) groups)
  commits_read first from [] last to (same, same_too) =
      subst (λ (f : F). Consumes (framing.remaining from) (framing.remaining f) []) same_too (Consumes-nil (framing.remaining from))
  commits_read first from (steps ∷ groups) last to (executed, next, on, some, follows, committed, more) =
      Consumes-trans (framing.remaining from) (framing.remaining on) (framing.remaining to) (flat_map (λ (s : Step Q A). s.bytes) steps)
      (flat_map (λ (ss : List (Step Q A)). flat_map (λ (s : Step Q A). s.bytes) ss) groups)
      (follows_read first from [] steps executed on follows) (commits_read next on groups last to more)

  pub run_begins : (first : B) (from : F) (old : Option (List ℕ)) → (done : HasRun backend framing limits first from old first from old) × (length done.groups ≡ 0)
  run_begins first from old = (record { groups = []; commits = (refl, refl); reads = Consumes-nil (framing.remaining from); writes = Appends-nil old }, refl)

  module _ (first : B) (from : F) (old : Option (List ℕ)) (begun : B) (at : F) (held : Option (List ℕ)) (earlier : HasRun backend framing limits first from old begun at held)
      (executed : B) (to : F) (text : List ℕ) (last : B) (new : Option (List ℕ)) where
    -- one more group was committed and written
    pub run_goes_on : (count : ℕ) → length earlier.groups ≡ count → RunsGroup backend framing limits begun at halt.Pause executed to text → (done : Unit {0})
        → FlushesGroup {H = H} backend executed text held (Ok done) last new → (run : HasRun backend framing limits first from old last to new) × (length run.groups ≡ count + 1)
    run_goes_on count counted gathers done (committed, writes) = (
      record {
        groups = earlier.groups ++ steps ∷ [];
        commits = commits;
        reads = commits_read first from (earlier.groups ++ steps ∷ []) last to commits;
        writes = subst (Appends old new) joined (Appends-trans old held new _ _ earlier.writes (subst (Appends held new) gathers.gathered.text_is writes));
      },
      length-append earlier.groups (steps ∷ []) ∙ ap (λ (n : ℕ). n + 1) counted,
    )
      where
        steps : List (Step Q A)
        steps = gathers.gathered.steps

        follows : ExecutesInOrder backend framing limits begun at [] steps executed to
        follows = subst (λ (b : B). ExecutesInOrder backend framing limits begun at [] steps b to) gathers.halts.0
            (subst (λ (f : F). ExecutesInOrder backend framing limits begun at [] steps gathers.middle f) gathers.halts.1 gathers.gathered.follows)

        commits : Commits backend framing limits first from (earlier.groups ++ steps ∷ []) last to
        commits = commits_more first from earlier.groups begun at steps executed to last earlier.commits gathers.is_over follows committed

        joined : flat_map (responses backend framing) earlier.groups ++ responses backend framing steps
            ≡ flat_map (responses backend framing) (earlier.groups ++ steps ∷ [])
        joined =
            ap (λ (l : List ℕ). flat_map (responses backend framing) earlier.groups ++ l) (sym (append-nil (responses backend framing steps)))
            ∙ sym (flat_map-append (responses backend framing) earlier.groups (steps ∷ []))

    ends : (why : Halt A E H) → RunsGroup backend framing limits begun at why executed to text → (result : Result (Unit {0}) (Stop C E H))
        → FlushesGroup backend executed text held result last new → EndsAfterGroup backend framing limits why result first from old last to new
    ends why gathers result flushes = record {
      begun = begun;
      at = at;
      held = held;
      earlier = earlier;
      executed = executed;
      text = text;
      gathers = gathers;
      flushes = flushes;
    }

    -- a commit or a write has failed
    pub run_stops : (why : Halt A E H) → RunsGroup backend framing limits begun at why executed to text → (fault : Stop C E H)
        → FlushesGroup backend executed text held (Err fault) last new → RunsAll backend framing limits first from old (Err fault) last to new
    run_stops why gathers (stop.Commit fault) flushes = record { why = why; ends = ends why gathers (Err (stop.Commit fault)) flushes }
    run_stops why gathers (stop.Write error) flushes = record { why = why; ends = ends why gathers (Err (stop.Write error)) flushes }
    run_stops why gathers (stop.Read fault) flushes = absurd flushes
    run_stops why gathers (stop.Execute fault) flushes = absurd flushes
    run_stops why gathers stop.Internal flushes = absurd flushes

-- pending responses were written, and then one more, or a prefix of it
module _ {B Q A C E : Type 0} (backend : backends.Ghosts B Q A E C) (executed : B) (text : List ℕ) (old held : Option (List ℕ)) (last : B)
    (flushes : backend.commits executed (Ok tt) last × Appends old held text) (more : List ℕ) (new : Option (List ℕ)) where
  pub flushes_more : Appends held new more → backend.commits executed (Ok tt) last × Appends old new (text ++ more)
  flushes_more writes = (flushes.0, Appends-trans old held new text more flushes.1 writes)

  pub flushes_some : AppendsSome held new more → backend.commits executed (Ok tt) last × AppendsSome old new (text ++ more)
  flushes_some (some, rest, is, writes) = (
    flushes.0,
    (
      text ++ some,
      rest,
      ap (λ (l : List ℕ). text ++ l) is ∙ sym (append_assoc text some rest),
      Appends-trans old held new text some flushes.1 writes,
    ),
  )

-- given the laws of a backend
module _ {B F Q A C E H : Type 0} (backend : backends.Ghosts B Q A E C) (framing : framings.Ghosts F Q A H)
    (execute_persists : (before : B) (request : Q) (result : Result A E) (after : B) → backend.executes before request result after
    → (stored : backend.Contents) → backend.persists stored before → backend.persists stored after)
    (commit_persists : (before after : B) → backend.commits before (Ok tt) after
    → (stored : backend.Contents) → backend.persists stored before → backend.persists (backend.contents after) after) where
  follows_persist : (limits : GroupLimits) (before : B) (from : F) (pending : List ℕ) (steps : List (Step Q A)) (after : B) (to : F)
      → ExecutesInOrder backend framing limits before from pending steps after to → (stored : backend.Contents) → backend.persists stored before → backend.persists stored after
  follows_persist limits before from pending [] after to (same, same_too) stored durable = subst (λ (b : B). backend.persists stored b) same durable
  follows_persist limits before from pending (step ∷ steps) after to (next, on, one, ahead, more) stored durable =
      follows_persist limits next on (pending ++ framing.renders step.response) steps after to more stored
      (execute_persists before step.request (Ok step.response) next one.executes stored durable)

  commits_persist : (limits : GroupLimits) (first : B) (from : F) (groups : List (List (Step Q A))) (last : B) (at : F) → Commits backend framing limits first from groups last at
      → (stored : backend.Contents) → backend.persists stored first → backend.persists (durable_after groups stored (backend.contents last)) last
  commits_persist limits first from [] last at (same, same_too) stored durable = subst (λ (b : B). backend.persists stored b) same durable
  commits_persist limits first from (steps ∷ groups) last at (executed, next, on, some, follows, committed, more) stored durable =
      all_persist groups more (commits_persist limits next on groups last at more (backend.contents next)
      (commit_persists executed next committed stored (follows_persist limits first from [] steps executed on follows stored durable)))
    where
      all_persist : (groups : List (List (Step Q A))) → Commits backend framing limits next on groups last at
          → backend.persists (durable_after groups (backend.contents next) (backend.contents last)) last → backend.persists (backend.contents last) last
      all_persist [] (same, same_too) durable = subst (λ (b : B). backend.persists (backend.contents b) last) same durable
      all_persist (group ∷ others) commits durable = durable

  halts_persist : (why : Halt A E H) (middle : B) (at : F) (after : B) (to : F) → Halts backend framing middle at why after to
      → (stored : backend.Contents) → backend.persists stored middle → backend.persists stored after
  halts_persist halt.Pause middle at after to (same, more) stored durable = subst (λ (b : B). backend.persists stored b) same durable
  halts_persist halt.End middle at after to (same, more) stored durable = subst (λ (b : B). backend.persists stored b) same durable
  halts_persist (halt.Read why) middle at after to (same, more) stored durable = subst (λ (b : B). backend.persists stored b) same durable
  halts_persist (halt.Execute why) middle at after to executes stored durable =
      execute_persists middle executes.request (Err why) after executes.is.executes stored durable
  halts_persist (halt.Unbuffered response) middle at after to executes stored durable =
      execute_persists middle executes.request (Ok response) after executes.is.executes stored durable

  module _ (limits : GroupLimits) (first : B) (from : F) (old : Option (List ℕ)) (stored : backend.Contents) (durable : backend.persists stored first) where
    executed_persists : (why : Halt A E H) (result : Result (Unit {0}) (Stop C E H)) (last : B) (to : F) (new : Option (List ℕ))
        → (ends : EndsAfterGroup backend framing limits why result first from old last to new)
        → backend.persists (durable_after ends.earlier.groups stored (backend.contents ends.begun)) ends.executed
    executed_persists why result last to new ends =
        halts_persist why ends.gathers.middle ends.gathers.at ends.executed to ends.gathers.halts _
        (follows_persist limits ends.begun ends.at [] ends.gathers.gathered.steps ends.gathers.middle ends.gathers.at ends.gathers.gathered.follows _
        (commits_persist limits first from ends.earlier.groups ends.begun ends.at ends.earlier.commits stored durable))

    committed_persists : (why : Halt A E H) (result : Result (Unit {0}) (Stop C E H)) (last : B) (to : F) (new : Option (List ℕ))
        → (ends : EndsAfterGroup backend framing limits why result first from old last to new) → backend.commits ends.executed (Ok tt) last
        → backend.persists (backend.contents last) last
    committed_persists why result last to new ends commits = commit_persists ends.executed last commits _ (executed_persists why result last to new ends)

    counted_persists : (groups : List (List (Step Q A))) (last : B) → length groups ≡ 2 ^ 64 - 1
        → backend.persists (durable_after groups stored (backend.contents last)) last → backend.persists (backend.contents last) last
    counted_persists [] last counted persists = absurd (omega (arith, counted))
    counted_persists (steps ∷ groups) last counted persists = persists

    run_persists : (result : Result (Unit {0}) (Stop C E H)) (last : B) (to : F) (new : Option (List ℕ))
        → RunsAll backend framing limits first from old result last to new → UnlessCommitFails result (backend.persists (backend.contents last) last)
    run_persists (Ok done) last to new runs = committed_persists halt.End (Ok tt) last to new runs runs.flushes.0
    run_persists (Err (stop.Commit why)) last to new runs = tt
    run_persists (Err (stop.Write error)) last to new runs = committed_persists runs.why (Err (stop.Write error)) last to new runs.ends runs.ends.flushes.0
    run_persists (Err (stop.Read why)) last to new runs = committed_persists (halt.Read why) (Ok tt) last to new runs runs.flushes.0
    run_persists (Err (stop.Execute why)) last to new runs = committed_persists (halt.Execute why) (Ok tt) last to new runs runs.flushes.0
    run_persists (Err stop.Internal) last to new (done, counted) =
        counted_persists done.groups last counted (commits_persist limits first from done.groups last to done.commits stored durable)

  pub responses_durable : ResponsesAreDurable backend framing
  responses_durable = record {
    groups = λ limits first from old last at new run stored durable. commits_persist limits first from run.groups last at run.commits stored durable;
    all = λ limits first from old result last to new runs stored durable. run_persists limits first from old stored durable result last to new runs;
    failed = λ limits first from old why last to new stops stored durable.
        executed_persists limits first from old stored durable stops.why (Err (stop.Commit why)) last to new stops.ends;
  }
