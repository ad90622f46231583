-- Conversations over a durable repository keep their promises.
use Rattle.std.proofs.Common.{◌≡◌, ℕ, Bool, false, List, [], ◌∷◌, ◌++◌, length, Option, None, Some, Result, Ok, Err, flat_map, append-nil, refl, sym, ◌∙◌, ap, subst, arith}
use Rattle.std.specs.Io.KnownBytes.{Appends, Keeps}
use Rattle.camp_kept.specs.Accepting.{StoreContents}
use Rattle.camp_kept.specs.Faults.{ReportsDiskFault}
use Rattle.camp_kept.specs.Persisting.{LeavesRepository, PersistsCalls, accepted_by, disk_in, may_commit}
use Rattle.camp_kept.specs.declared.faults.PersistenceFault.{PersistenceFault}
use Rattle.camp_kept.specs.declared.faults.PersistenceFault.TheVariants as fault
use Rattle.camp_kept.specs.declared.repositories.DurableRepository.{DurableRepository}
use Rattle.camp_kept_talk.specs.DurableLaws.{commit_persists, share_persists}
use Rattle.camp_kept_talk.specs.Conversations.{CommitsStore, LeavesDurable, PersistsFirst, SharesStore, stopped_fault}
use Rattle.camp_kept_talk.specs.Laws.{IsOverStore, LeavesAnswered, ReportsFaultOf, StoresKeepPromises}
use Rattle.camp_object.proofs.SameBooks.{earlier_self, earlier_through}
use Rattle.camp_store.specs.declared.faults.StoreFault.TheVariants as store_fault
use Rattle.camp_talk.specs.Engine.Groups.{ExecutesInOrder, Halts, RunsGroup, Step, responses}
use Rattle.camp_talk.specs.Engine.Runs.{Commits, EndsAfterGroup, RunsAll, StopsAfterGroup, UnlessCommitFails, durable_after}
use Rattle.camp_talk.specs.declared.engine.backends.Backend as backends
use Rattle.camp_talk.specs.declared.engine.framings.Framing as framings
use Rattle.camp_talk.specs.declared.engine.groups.GroupLimits.{GroupLimits}
use Rattle.camp_talk.specs.declared.engine.groups.Halt.{Halt}
use Rattle.camp_talk.specs.declared.engine.groups.Halt.TheVariants as halt
use Rattle.camp_talk.specs.declared.engine.runs.Stop.{Stop}
use Rattle.camp_talk.specs.declared.engine.runs.Stop.TheVariants as stop

shares_self : {D : Type 0} (kept : DurableRepository D) → SharesStore kept kept
shares_self kept = record { same = refl; grows = earlier_self kept.book }

shares_through : {D : Type 0} (one two three : DurableRepository D) → SharesStore one two → SharesStore two three → SharesStore one three
shares_through {D = D} one two three first second = record {
  same = second.same ∙ ap (λ (kept : DurableRepository D). record kept { book = three.book }) first.same;
  grows = earlier_through first.grows second.grows;
}

err_no_ok : (why : PersistenceFault) (result : Result (Unit {0}) PersistenceFault) (done : Unit {0}) → result ≡ Err why → result ≡ Ok done → ⊥
err_no_ok why result done err ok = subst is_err (sym err ∙ ok) tt
  where
    is_err : Result (Unit {0}) PersistenceFault → Type 0
    is_err (Ok done) = ⊥
    is_err (Err why) = Unit {0}

module _ {D : Type 0} (seen : D → List ℕ) (may_leave : D → List ℕ → Type 0) where
  still_durable : (stored : StoreContents) (old new : DurableRepository D) → PersistsCalls seen may_leave stored old → new ≡ old → PersistsCalls seen may_leave stored new
  still_durable stored old new durable same = subst (λ (kept : DurableRepository D). PersistsCalls seen may_leave stored kept) (sym same) durable

  -- durable calls are still so after a failed commit, unless the disk has failed
  leaves_durable : (why : PersistenceFault) (stored : StoreContents) (old new : DurableRepository D) → PersistsCalls seen may_leave stored old → LeavesRepository why old new
      → LeavesDurable seen may_leave why stored new
  leaves_durable (fault.Store (store_fault.Disk error)) stored old new durable leaves = leaves
  leaves_durable (fault.Store store_fault.Memory) stored old new durable leaves = still_durable stored old new durable leaves
  leaves_durable (fault.Store store_fault.TooLong) stored old new durable leaves = still_durable stored old new durable leaves
  leaves_durable (fault.Store (store_fault.Damaged texts at)) stored old new durable leaves = still_durable stored old new durable leaves
  leaves_durable (fault.Store store_fault.Failed) stored old new durable leaves = still_durable stored old new durable leaves
  leaves_durable fault.Memory stored old new durable leaves = still_durable stored old new durable leaves
  leaves_durable fault.NoStore stored old new durable leaves = still_durable stored old new durable leaves
  leaves_durable (fault.Damaged call at) stored old new durable leaves = still_durable stored old new durable leaves
  leaves_durable (fault.OtherLimits catches branches) stored old new durable leaves = still_durable stored old new durable leaves

module _ {D : Type 0} (seen : D → List ℕ) (may_leave : D → List ℕ → Type 0) (faults : D → ℕ) (is_clean : D → Bool) {B F Q A E H : Type 0}
    (backend : backends.Ghosts B Q A E PersistenceFault) (framing : framings.Ghosts F Q A H) (kept_of : B → DurableRepository D)
    (over : IsOverStore seen may_leave faults is_clean backend kept_of) (limits : GroupLimits) where
  shares_same : (one two : B) → one ≡ two → SharesStore (kept_of one) (kept_of two)
  shares_same one two same = subst (λ (b : B). SharesStore (kept_of one) (kept_of b)) same (shares_self (kept_of one))

  follows_share : (before : B) (from : F) (pending : List ℕ) (steps : List (Step Q A)) (after : B) (to : F)
      → ExecutesInOrder backend framing limits before from pending steps after to → SharesStore (kept_of before) (kept_of after)
  follows_share before from pending [] after to (same, more) = shares_same before after same
  follows_share before from pending (step ∷ steps) after to (next, on, one, ahead, more) =
      shares_through (kept_of before) (kept_of next) (kept_of after) (over.executes before step.request (Ok step.response) next one.executes)
      (follows_share next on (pending ++ framing.renders step.response) steps after to more)

  halts_share : (why : Halt A E H) (middle : B) (at : F) (after : B) (to : F) → Halts backend framing middle at why after to → SharesStore (kept_of middle) (kept_of after)
  halts_share halt.Pause middle at after to (same, more) = shares_same middle after same
  halts_share halt.End middle at after to (same, more) = shares_same middle after same
  halts_share (halt.Read why) middle at after to (same, more) = shares_same middle after same
  halts_share (halt.Execute why) middle at after to executes = over.executes middle executes.request (Err why) after executes.is.executes
  halts_share (halt.Unbuffered response) middle at after to executes = over.executes middle executes.request (Ok response) after executes.is.executes

  group_shares : (before : B) (from : F) (why : Halt A E H) (after : B) (to : F) (text : List ℕ) → RunsGroup backend framing limits before from why after to text
      → SharesStore (kept_of before) (kept_of after)
  group_shares before from why after to text runs =
      shares_through (kept_of before) (kept_of runs.middle) (kept_of after)
      (follows_share before from [] runs.gathered.steps runs.middle runs.at runs.gathered.follows)
      (halts_share why runs.middle runs.at after to runs.halts)

  -- the disk of a repository whose book has changed
  same_disk : (one two : DurableRepository D) → SharesStore one two → disk_in two ≡ disk_in one
  same_disk one two shares = ap disk_in shares.same

  still_stopped : (one two : DurableRepository D) → SharesStore one two → may_commit one ≡ false → may_commit two ≡ false
  still_stopped one two shares stopped = ap may_commit shares.same ∙ stopped

  -- ---- no commit is possible

  no_commit : (before after : B) → may_commit (kept_of before) ≡ false → backend.commits before (Ok tt) after → ⊥
  no_commit before after stopped commits =
      err_no_ok stopped_fault (Ok tt) tt ((over.commits before (Ok tt) after commits).stopped stopped).0 refl

  no_group : (first : B) (from : F) (groups : List (List (Step Q A))) (last : B) (at : F) → Commits backend framing limits first from groups last at
      → may_commit (kept_of first) ≡ false → (groups ≡ []) × (first ≡ last)
  no_group first from [] last at (same, more) stopped = (refl, same)
  no_group first from (steps ∷ groups) last at (executed, next, on, some, follows, committed, more) stopped =
      absurd (no_commit executed next (still_stopped (kept_of first) (kept_of executed) (follows_share first from [] steps executed on follows) stopped) committed)

  -- ---- what commits that succeed do not change about a disk: the number of its faults, and that it is clean

  module _ {X : Type 0} (part : D → X) (stays : (before after : B) → backend.commits before (Ok tt) after → part (disk_in (kept_of after)) ≡ part (disk_in (kept_of before))) where
    shares_stay : (one two : DurableRepository D) → SharesStore one two → part (disk_in two) ≡ part (disk_in one)
    shares_stay one two shares = ap part (same_disk one two shares)

    groups_stay : (first : B) (from : F) (groups : List (List (Step Q A))) (last : B) (at : F) → Commits backend framing limits first from groups last at
        → part (disk_in (kept_of last)) ≡ part (disk_in (kept_of first))
    groups_stay first from [] last at (same, more) = ap (λ (b : B). part (disk_in (kept_of b))) (sym same)
    groups_stay first from (steps ∷ groups) last at (executed, next, on, some, follows, committed, more) =
        groups_stay next on groups last at more ∙ stays executed next committed
        ∙ shares_stay (kept_of first) (kept_of executed) (follows_share first from [] steps executed on follows)

    module _ (first : B) (from : F) (old : Option (List ℕ)) (why : Halt A E H) (result : Result (Unit {0}) (Stop PersistenceFault E H)) (last : B) (to : F) (new : Option (List ℕ))
        (ends : EndsAfterGroup backend framing limits why result first from old last to new) where
      executed_stays : part (disk_in (kept_of ends.executed)) ≡ part (disk_in (kept_of first))
      executed_stays =
          shares_stay (kept_of ends.begun) (kept_of ends.executed) (group_shares ends.begun ends.at why ends.executed to ends.text ends.gathers)
          ∙ groups_stay first from ends.earlier.groups ends.begun ends.at ends.earlier.commits

      committed_stays : backend.commits ends.executed (Ok tt) last → part (disk_in (kept_of last)) ≡ part (disk_in (kept_of first))
      committed_stays commits = stays ends.executed last commits ∙ executed_stays

    -- unless a commit has failed
    run_stays : (first : B) (from : F) (old : Option (List ℕ)) (result : Result (Unit {0}) (Stop PersistenceFault E H)) (last : B) (to : F) (new : Option (List ℕ))
        → RunsAll backend framing limits first from old result last to new → UnlessCommitFails result (part (disk_in (kept_of last)) ≡ part (disk_in (kept_of first)))
    run_stays first from old (Ok done) last to new runs = committed_stays first from old halt.End (Ok tt) last to new runs runs.flushes.0
    run_stays first from old (Err (stop.Commit why)) last to new runs = tt
    run_stays first from old (Err (stop.Write error)) last to new runs = committed_stays first from old runs.why (Err (stop.Write error)) last to new runs.ends runs.ends.flushes.0
    run_stays first from old (Err (stop.Read why)) last to new runs = committed_stays first from old (halt.Read why) (Ok tt) last to new runs runs.flushes.0
    run_stays first from old (Err (stop.Execute why)) last to new runs = committed_stays first from old (halt.Execute why) (Ok tt) last to new runs runs.flushes.0
    run_stays first from old (Err stop.Internal) last to new (done, counted) = groups_stay first from done.groups last to done.commits

  commit_counts : (before after : B) → backend.commits before (Ok tt) after → faults (disk_in (kept_of after)) ≡ faults (disk_in (kept_of before))
  commit_counts before after commits = (over.commits before (Ok tt) after commits).counts

  commit_clean : (before after : B) → backend.commits before (Ok tt) after → is_clean (disk_in (kept_of after)) ≡ is_clean (disk_in (kept_of before))
  commit_clean before after commits = (over.commits before (Ok tt) after commits).clean

  module _ (first : B) (from : F) (old : Option (List ℕ)) where
    run_counts : (result : Result (Unit {0}) (Stop PersistenceFault E H)) (last : B) (to : F) (new : Option (List ℕ)) → RunsAll backend framing limits first from old result last to new
        → ReportsFaultOf result (faults (disk_in (kept_of first))) (faults (disk_in (kept_of last)))
    run_counts (Err (stop.Commit why)) last to new runs =
        let commits = over.commits runs.ends.executed (Err why) last runs.ends.flushes.0 in (
          commits.fault,
          subst (λ (n : ℕ). ReportsDiskFault why n (faults (disk_in (kept_of last))))
              (executed_stays faults commit_counts first from old runs.why (Err (stop.Commit why)) last to new runs.ends) commits.counts,
        )
    run_counts (Ok done) last to new runs = run_stays faults commit_counts first from old (Ok done) last to new runs
    run_counts (Err (stop.Write error)) last to new runs = run_stays faults commit_counts first from old (Err (stop.Write error)) last to new runs
    run_counts (Err (stop.Read why)) last to new runs = run_stays faults commit_counts first from old (Err (stop.Read why)) last to new runs
    run_counts (Err (stop.Execute why)) last to new runs = run_stays faults commit_counts first from old (Err (stop.Execute why)) last to new runs
    run_counts (Err stop.Internal) last to new runs = run_stays faults commit_counts first from old (Err stop.Internal) last to new runs

    run_clean : (result : Result (Unit {0}) (Stop PersistenceFault E H)) (last : B) (to : F) (new : Option (List ℕ)) → RunsAll backend framing limits first from old result last to new
        → is_clean (disk_in (kept_of last)) ≡ is_clean (disk_in (kept_of first))
    run_clean (Err (stop.Commit why)) last to new runs =
        (over.commits runs.ends.executed (Err why) last runs.ends.flushes.0).clean
        ∙ executed_stays is_clean commit_clean first from old runs.why (Err (stop.Commit why)) last to new runs.ends
    run_clean (Ok done) last to new runs = run_stays is_clean commit_clean first from old (Ok done) last to new runs
    run_clean (Err (stop.Write error)) last to new runs = run_stays is_clean commit_clean first from old (Err (stop.Write error)) last to new runs
    run_clean (Err (stop.Read why)) last to new runs = run_stays is_clean commit_clean first from old (Err (stop.Read why)) last to new runs
    run_clean (Err (stop.Execute why)) last to new runs = run_stays is_clean commit_clean first from old (Err (stop.Execute why)) last to new runs
    run_clean (Err stop.Internal) last to new runs = run_stays is_clean commit_clean first from old (Err stop.Internal) last to new runs

    -- ---- a conversation by which no commit is possible

    module _ (stopped : may_commit (kept_of first) ≡ false) where
      executed_stopped : (why : Halt A E H) (result : Result (Unit {0}) (Stop PersistenceFault E H)) (last : B) (to : F) (new : Option (List ℕ))
          → (ends : EndsAfterGroup backend framing limits why result first from old last to new) → SharesStore (kept_of first) (kept_of ends.executed)
      executed_stopped why result last to new ends =
          subst (λ (b : B). SharesStore (kept_of b) (kept_of ends.executed)) (sym (no_group first from ends.earlier.groups ends.begun ends.at ends.earlier.commits stopped).1)
          (group_shares ends.begun ends.at why ends.executed to ends.text ends.gathers)

      never_committed : (why : Halt A E H) (result : Result (Unit {0}) (Stop PersistenceFault E H)) (last : B) (to : F) (new : Option (List ℕ))
          → (ends : EndsAfterGroup backend framing limits why result first from old last to new) → backend.commits ends.executed (Ok tt) last → ⊥
      never_committed why result last to new ends commits =
          no_commit ends.executed last (still_stopped (kept_of first) (kept_of ends.executed) (executed_stopped why result last to new ends) stopped) commits

      abbrev Stops : Result (Unit {0}) (Stop PersistenceFault E H) → B → Option (List ℕ) → Type 0
      Stops result last new = (result ≡ Err (stop.Commit stopped_fault)) × Keeps old new × SharesStore (kept_of first) (kept_of last)

      kept_none : (held : Option (List ℕ)) (text : List ℕ) → Appends old held text → text ≡ [] → Keeps old held
      kept_none held text appends same = nothing old held (subst (Appends old held) same appends)
        where
          nothing : (a b : Option (List ℕ)) → Appends a b [] → Keeps a b
          nothing None b appends = tt
          nothing (Some xs) None appends = appends
          nothing (Some xs) (Some ys) appends = appends ∙ append-nil xs

      run_stopped : (result : Result (Unit {0}) (Stop PersistenceFault E H)) (last : B) (to : F) (new : Option (List ℕ)) → RunsAll backend framing limits first from old result last to new
          → Stops result last new
      run_stopped (Ok done) last to new runs = absurd (never_committed halt.End (Ok tt) last to new runs runs.flushes.0)
      run_stopped (Err (stop.Commit why)) last to new runs = (
        ap (λ r. as_commit r) (commits.stopped stopped_then).0,
        keeps_through old runs.ends.held new
            (kept_none runs.ends.held _ runs.ends.earlier.writes (ap (λ (gs : List (List (Step Q A))). flat_map (λ steps. responses backend framing steps) gs) none.0))
            runs.ends.flushes.1,
        subst (λ (kept : DurableRepository D). SharesStore (kept_of first) kept) (sym (commits.stopped stopped_then).1) shares,
      )
        where
          shares : SharesStore (kept_of first) (kept_of runs.ends.executed)
          shares = executed_stopped runs.why (Err (stop.Commit why)) last to new runs.ends

          stopped_then : may_commit (kept_of runs.ends.executed) ≡ false
          stopped_then = still_stopped (kept_of first) (kept_of runs.ends.executed) shares stopped

          commits : CommitsStore seen may_leave faults is_clean (kept_of runs.ends.executed) (Err why) (kept_of last)
          commits = over.commits runs.ends.executed (Err why) last runs.ends.flushes.0

          none : (runs.ends.earlier.groups ≡ []) × (first ≡ runs.ends.begun)
          none = no_group first from runs.ends.earlier.groups runs.ends.begun runs.ends.at runs.ends.earlier.commits stopped

          as_commit : Result (Unit {0}) PersistenceFault → Result (Unit {0}) (Stop PersistenceFault E H)
          as_commit (Ok done) = Ok done
          as_commit (Err fault) = Err (stop.Commit fault)

          keeps_through : (a b c : Option (List ℕ)) → Keeps a b → Keeps b c → Keeps a c
          keeps_through None b c first second = tt
          keeps_through (Some xs) None c first second = absurd first
          keeps_through (Some xs) (Some ys) None first second = second
          keeps_through (Some xs) (Some ys) (Some zs) first second = second ∙ first
      run_stopped (Err (stop.Write error)) last to new runs = absurd (never_committed runs.why (Err (stop.Write error)) last to new runs.ends runs.ends.flushes.0)
      run_stopped (Err (stop.Read why)) last to new runs = absurd (never_committed (halt.Read why) (Ok tt) last to new runs runs.flushes.0)
      run_stopped (Err (stop.Execute why)) last to new runs = absurd (never_committed (halt.Execute why) (Ok tt) last to new runs runs.flushes.0)
      run_stopped (Err stop.Internal) last to new (done, counted) =
          absurd (omega (arith, counted, ap (λ (gs : List (List (Step Q A))). length gs) (no_group first from done.groups last to done.commits stopped).0))

    -- ---- what a crash leaves after a commit that has failed

    groups_persist : (start : B) (on : F) (groups : List (List (Step Q A))) (last : B) (at : F) → Commits backend framing limits start on groups last at → (stored : StoreContents)
        → PersistsFirst seen may_leave stored (kept_of start) → PersistsFirst seen may_leave (durable_after groups stored (accepted_by (kept_of last))) (kept_of last)
    groups_persist start on [] last at (same, more) stored durable = subst (λ (b : B). PersistsFirst seen may_leave stored (kept_of b)) same durable
    groups_persist start on (steps ∷ groups) last at (executed, next, to, some, follows, committed, more) stored durable =
        all groups more (groups_persist next to groups last at more (accepted_by (kept_of next))
        (commit_persists seen may_leave faults is_clean (kept_of executed) (kept_of next) (over.commits executed (Ok tt) next committed) stored
        (share_persists seen may_leave (kept_of start) (kept_of executed) (follows_share start on [] steps executed to follows) stored durable)))
      where
        all : (groups : List (List (Step Q A))) → Commits backend framing limits next to groups last at
            → PersistsFirst seen may_leave (durable_after groups (accepted_by (kept_of next)) (accepted_by (kept_of last))) (kept_of last)
            → PersistsFirst seen may_leave (accepted_by (kept_of last)) (kept_of last)
        all [] (same, more) durable = subst (λ (b : B). PersistsFirst seen may_leave (accepted_by (kept_of b)) (kept_of last)) same durable
        all (group ∷ others) commits durable = durable

    leaves_answered : (why : PersistenceFault) (last : B) (to : F) (new : Option (List ℕ))
        (stops : StopsAfterGroup backend framing limits (Err (stop.Commit why)) first from old last to new)
        → LeavesAnswered seen may_leave faults is_clean backend kept_of framing limits first from old why last to new stops
    leaves_answered why last to new stops stored durable =
        let commits = over.commits stops.ends.executed (Err why) last stops.ends.flushes.0 in
        let calls = durable_after stops.ends.earlier.groups stored (accepted_by (kept_of stops.ends.begun)) in
        let persists = share_persists seen may_leave (kept_of stops.ends.begun) (kept_of stops.ends.executed)
        (group_shares stops.ends.begun stops.ends.at stops.why stops.ends.executed to stops.ends.text stops.ends.gathers) calls
        (groups_persist first from stops.ends.earlier.groups stops.ends.begun stops.ends.at stops.ends.earlier.commits stored durable) in
        (commits.crash calls persists, leaves_durable seen may_leave why calls (kept_of stops.ends.executed) (kept_of last) persists.1 commits.leaves)

pub promises_kept : {D B F Q A E H : Type 0} (seen : D → List ℕ) (may_leave : D → List ℕ → Type 0) (faults : D → ℕ) (is_clean : D → Bool)
    (backend : backends.Ghosts B Q A E PersistenceFault) (framing : framings.Ghosts F Q A H) (kept_of : B → DurableRepository D)
    → StoresKeepPromises seen may_leave faults is_clean backend framing kept_of
promises_kept seen may_leave faults is_clean backend framing kept_of = record {
  all = λ over limits first from old result last to new runs. record {
    stopped = λ stopped. run_stopped seen may_leave faults is_clean backend framing kept_of over limits first from old stopped result last to new runs;
    counts = run_counts seen may_leave faults is_clean backend framing kept_of over limits first from old result last to new runs;
    clean = run_clean seen may_leave faults is_clean backend framing kept_of over limits first from old result last to new runs;
  };
  failed = λ over limits first from old why last to new stops.
      leaves_answered seen may_leave faults is_clean backend framing kept_of over limits first from old why last to new stops;
}
