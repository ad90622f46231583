-- Requests in frames are answered one after the other.
use Rattle.std.proofs.Common.{◌≡◌, ℕ, List, [], ◌∷◌, ◌++◌, Option, Ok, Vec, refl, sym, ◌∙◌, ap, subst, append-nil, flat_map, map}
use Rattle.std.proofs.KnownBytes.{Appends-trans, Consumes-trans}
use Rattle.std.proofs.lemmas.Grind.{flat_map-append}
use Rattle.std.specs.Global.{Global}
use Rattle.std.specs.Io.KnownBytes.{Appends, Consumes}
use Rattle.camp_talk.proofs.RunLemmas.{follows_read}
use Rattle.camp_talk.specs.Engine.Groups.{ExecutesInOrder, Gathered, Step}
use Rattle.camp_talk.specs.Engine.Runs.{Commits, HasRun, RunsAll}
use Rattle.camp_talk.specs.Engine.Services.{RequestsAreServedInTurn, ServedInTurn, Service, ServesFrames, ServesInTurn}
use Rattle.camp_talk.specs.Entries.{Entries}
use Rattle.camp_talk.specs.Frames.{framed}
use Rattle.camp_talk.specs.declared.engine.backends.Backend as backends
use Rattle.camp_talk.specs.declared.engine.framings.Framing as framings
use Rattle.camp_talk.specs.declared.engine.groups.GroupLimits.{GroupLimits}

abbrev Bytes : Type 0
Bytes = Vec ℕ Global

abbrev service_of : Step Bytes Bytes → Service
service_of step = record { request = step.request.items; frame = step.bytes; answer = step.response.items }

-- parts of the services of steps are pieces of the steps
module _ (part : Service → List ℕ) (piece : Step Bytes Bytes → List ℕ) (same : (step : Step Bytes Bytes) → part (service_of step) ≡ piece step) where
  steps_joined : (steps : List (Step Bytes Bytes)) → flat_map part (map service_of steps) ≡ flat_map piece steps
  steps_joined [] = refl
  steps_joined (step ∷ steps) =
      ap (λ (l : List ℕ). l ++ flat_map part (map service_of steps)) (same step) ∙ ap (λ (l : List ℕ). piece step ++ l) (steps_joined steps)

  groups_joined : (groups : List (List (Step Bytes Bytes)))
      → flat_map part (flat_map (λ (steps : List (Step Bytes Bytes)). map service_of steps) groups) ≡ flat_map (λ (steps : List (Step Bytes Bytes)). flat_map piece steps) groups
  groups_joined [] = refl
  groups_joined (steps ∷ groups) =
      flat_map-append part (map service_of steps) (flat_map (λ (ss : List (Step Bytes Bytes)). map service_of ss) groups)
      ∙ ap (λ (l : List ℕ). l ++ flat_map part (flat_map (λ (ss : List (Step Bytes Bytes)). map service_of ss) groups)) (steps_joined steps)
      ∙ ap (λ (l : List ℕ). flat_map piece steps ++ l) (groups_joined groups)

turns_joined : (first : Entries) (some : List Service) (middle : Entries) (others : List Service) (last : Entries) → ServedInTurn first some middle → ServedInTurn middle others last
    → ServedInTurn first (some ++ others) last
turns_joined first [] middle others last same follow = subst (λ (history : Entries). ServedInTurn history others last) (sym same) follow
turns_joined first (service ∷ some) middle others last (next, is, answers, more) follow = (next, is, answers, turns_joined next some middle others last more follow)

serve_on : (a b c old held new : Option (List ℕ)) (first middle last : Entries) → ServesInTurn a b old held first middle → ServesInTurn b c held new middle last
    → ServesInTurn a c old new first last
serve_on a b c old held new first middle last some others = record {
  services = some.services ++ others.services;
  follow = turns_joined first some.services middle others.services last some.follow others.follow;
  reads = subst (Consumes a c) (sym (flat_map-append (λ (s : Service). s.frame) some.services others.services)) (Consumes-trans a b c _ _ some.reads others.reads);
  writes = subst (Appends old new) (sym (flat_map-append (λ (s : Service). framed s.answer) some.services others.services))
      (Appends-trans old held new _ _ some.writes others.writes);
}

module _ {B F E C H : Type 0} (backend : backends.Ghosts B Bytes Bytes E C) (framing : framings.Ghosts F Bytes Bytes H) (history_of : B → Entries)
    (serves : ServesFrames backend framing history_of) (limits : GroupLimits) where
  steps_served : (before : B) (from : F) (pending : List ℕ) (steps : List (Step Bytes Bytes)) (after : B) (to : F)
      → ExecutesInOrder backend framing limits before from pending steps after to → ServedInTurn (history_of before) (map service_of steps) (history_of after)
  steps_served before from pending [] after to (same, more) = ap history_of same
  steps_served before from pending (step ∷ steps) after to (next, on, one, ahead, more) = (
    history_of next,
    serves.reads from step.request step.bytes on one.reads,
    serves.executes before step.request step.response next one.executes,
    steps_served next on (pending ++ framing.renders step.response) steps after to more,
  )

  groups_served : (first : B) (from : F) (groups : List (List (Step Bytes Bytes))) (last : B) (at : F) → Commits backend framing limits first from groups last at
      → ServedInTurn (history_of first) (flat_map (λ (steps : List (Step Bytes Bytes)). map service_of steps) groups) (history_of last)
  groups_served first from [] last at (same, more) = ap history_of same
  groups_served first from (steps ∷ groups) last at (executed, next, on, some, follows, committed, more) =
      turns_joined (history_of first) (map service_of steps) (history_of next) (flat_map (λ (ss : List (Step Bytes Bytes)). map service_of ss) groups) (history_of last)
      (subst (λ (history : Entries). ServedInTurn (history_of first) (map service_of steps) history) (sym (serves.commits executed next committed))
      (steps_served first from [] steps executed on follows))
      (groups_served next on groups last at more)

  run_served : (first : B) (from : F) (old : Option (List ℕ)) (last : B) (at : F) (new : Option (List ℕ)) → HasRun backend framing limits first from old last at new
      → ServesInTurn (framing.remaining from) (framing.remaining at) old new (history_of first) (history_of last)
  run_served first from old last at new run = record {
    services = flat_map (λ (steps : List (Step Bytes Bytes)). map service_of steps) run.groups;
    follow = groups_served first from run.groups last at run.commits;
    reads = subst (Consumes (framing.remaining from) (framing.remaining at))
        (sym (groups_joined (λ (s : Service). s.frame) (λ (s : Step Bytes Bytes). s.bytes) (λ step. refl) run.groups)) run.reads;
    writes = subst (Appends old new)
        (sym (groups_joined (λ (s : Service). framed s.answer) (λ (s : Step Bytes Bytes). framing.renders s.response) (λ step. sym (serves.renders step.response)) run.groups))
        run.writes;
  }

  end_served : (first : B) (from : F) (old : Option (List ℕ)) (last : B) (to : F) (new : Option (List ℕ)) → RunsAll backend framing limits first from old (Ok tt) last to new
      → ServesInTurn (framing.remaining from) (framing.remaining to) old new (history_of first) (history_of last)
  end_served first from old last to new ends =
      serve_on (framing.remaining from) (framing.remaining ends.at) (framing.remaining to) old ends.held new (history_of first) (history_of ends.begun) (history_of last)
      (run_served first from old ends.begun ends.at ends.held ends.earlier) (record {
        services = map service_of group.steps;
        follow = subst (λ (history : Entries). ServedInTurn (history_of ends.begun) (map service_of group.steps) history)
            (ap history_of ends.gathers.halts.0 ∙ sym (serves.commits ends.executed last ends.flushes.0))
            (steps_served ends.begun ends.at [] group.steps ends.gathers.middle ends.gathers.at group.follows);
        reads = subst (Consumes (framing.remaining ends.at) (framing.remaining to))
            (append-nil _ ∙ sym (steps_joined (λ (s : Service). s.frame) (λ (s : Step Bytes Bytes). s.bytes) (λ step. refl) group.steps))
            (Consumes-trans (framing.remaining ends.at) (framing.remaining ends.gathers.at) (framing.remaining to) _ []
            (follows_read backend framing limits ends.begun ends.at [] group.steps ends.gathers.middle ends.gathers.at group.follows)
            (serves.ends ends.gathers.at to ends.gathers.halts.1));
        writes = subst (Appends ends.held new)
            (group.text_is ∙ sym (steps_joined (λ (s : Service). framed s.answer) (λ (s : Step Bytes Bytes). framing.renders s.response) (λ step. sym (serves.renders step.response)) group.steps))
            ends.flushes.1;
      })
    where
      group : Gathered backend framing limits ends.begun ends.at ends.gathers.middle ends.gathers.at ends.text
      group = ends.gathers.gathered

pub served_in_turn : {B F E C H : Type 0} (backend : backends.Ghosts B Bytes Bytes E C) (framing : framings.Ghosts F Bytes Bytes H) (history_of : B → Entries)
    → RequestsAreServedInTurn backend framing history_of
served_in_turn backend framing history_of = record {
  groups = λ serves limits first from old last at new run. run_served backend framing history_of serves limits first from old last at new run;
  all = λ serves limits first from old last to new runs. end_served backend framing history_of serves limits first from old last to new runs;
}
