-- Groups grow by a step, until they are over.
use Rattle.std.proofs.Common.{◌≡◌, ℕ, ◌+◌, List, [], ◌∷◌, ◌++◌, length, None, Some, Ok, refl, sym, ◌∙◌, ap, subst, append-nil, append_assoc, length-append, arith}
use Rattle.std.proofs.lemmas.Grind.{flat_map-append}
use Rattle.camp_talk.specs.Engine.Groups.{Executes, ExecutesInOrder, Gathered, HasSteps, IfSteps, IsNoPause, IsOver, MayGoOn, RunsGroup, Step, TakesOne, responses}
use Rattle.camp_talk.specs.declared.engine.backends.Backend as backends
use Rattle.camp_talk.specs.declared.engine.framings.Framing as framings
use Rattle.camp_talk.specs.declared.engine.groups.GroupLimits.{GroupLimits}
use Rattle.camp_talk.specs.declared.engine.groups.Halt.{Halt}
use Rattle.camp_talk.specs.declared.engine.groups.Halt.TheVariants as halt

pub if_steps : {X : Type 0} (steps : List X) (fact : Type 0) → fact → IfSteps steps fact
if_steps [] fact holds = tt
if_steps (step ∷ steps) fact holds = holds

has_steps : {X : Type 0} (steps : List X) (count : ℕ) → length steps ≡ count + 1 → HasSteps steps
has_steps [] count counted = absurd (omega (arith, counted))
has_steps (step ∷ steps) count counted = tt

module _ {B F Q A E C H : Type 0} (backend : backends.Ghosts B Q A E C) (framing : framings.Ghosts F Q A H) (limits : GroupLimits) where
  is_over : (why : Halt A E H) (steps : List (Step Q A)) (fact : Type 0) → IsNoPause backend framing why → IfSteps steps fact → IsOver backend framing why steps fact
  is_over halt.Pause steps fact no_pause holds = absurd no_pause
  is_over halt.End steps fact no_pause holds = holds
  is_over (halt.Read why) steps fact no_pause holds = holds
  is_over (halt.Execute why) steps fact no_pause holds = holds
  is_over (halt.Unbuffered response) steps fact no_pause holds = holds

  follows_more : (before : B) (from : F) (pending : List ℕ) (steps : List (Step Q A)) (after : B) (to : F) (step : Step Q A) (last : B) (end : F)
      → ExecutesInOrder backend framing limits before from pending steps after to
      → IfSteps steps (MayGoOn backend framing limits after to (pending ++ responses backend framing steps))
      → Executes backend framing after to step.request step.bytes (Ok step.response) last end
      → ExecutesInOrder backend framing limits before from pending (steps ++ step ∷ []) last end
  follows_more before from pending [] after to step last end (same, same_too) ahead one = (
    last,
    end,
    subst (λ (b : B). Executes backend framing b from step.request step.bytes (Ok step.response) last end) (sym same)
        (subst (λ (f : F). Executes backend framing after f step.request step.bytes (Ok step.response) last end) (sym same_too) one),
    tt,
    (refl, refl),
  )
  follows_more before from pending (first ∷ []) after to step last end (next, on, taken, ready, (same, same_too)) ahead one = (
    next,
    on,
    taken,
    subst (λ (b : B). MayGoOn backend framing limits b on (pending ++ framing.renders first.response)) (sym same)
        (subst (λ (f : F). MayGoOn backend framing limits after f (pending ++ framing.renders first.response)) (sym same_too)
        (subst (λ (l : List ℕ). MayGoOn backend framing limits after to (pending ++ l)) (append-nil (framing.renders first.response)) ahead)),
    follows_more next on (pending ++ framing.renders first.response) [] after to step last end (same, same_too) tt one,
  )
  follows_more before from pending (first ∷ second ∷ rest) after to step last end (next, on, taken, ready, follows) ahead one = (
    next,
    on,
    taken,
    ready,
    follows_more next on (pending ++ framing.renders first.response) (second ∷ rest) after to step last end follows
        (subst (MayGoOn backend framing limits after to)
        (sym (append_assoc pending (framing.renders first.response) (responses backend framing (second ∷ rest)))) ahead) one,
  )

  pub gathers_none : (before : B) (from : F)
      → (gathered : Gathered backend framing limits before from before from []) × (length gathered.steps ≡ 0)
      × IfSteps gathered.steps (MayGoOn backend framing limits before from [])
  gathers_none before from = (record { steps = []; follows = (refl, refl); text_is = refl }, refl, tt)

  module _ (before : B) (from : F) (middle : B) (at : F) (text : List ℕ) (gathered : Gathered backend framing limits before from middle at text)
      (ahead : IfSteps gathered.steps (MayGoOn backend framing limits middle at text)) (after : B) (to : F) (new : List ℕ) where
    -- one more request was executed
    pub gathered_more : (count : ℕ) → length gathered.steps ≡ count → TakesOne backend framing middle at text None after to new
        → (more : Gathered backend framing limits before from after to new) × (length more.steps ≡ count + 1)
    gathered_more count counted (step, one, grows) = (
      record {
        steps = gathered.steps ++ step ∷ [];
        follows = follows_more before from [] gathered.steps middle at step after to gathered.follows
            (subst (λ (l : List ℕ). IfSteps gathered.steps (MayGoOn backend framing limits middle at l)) gathered.text_is ahead) one;
        text_is = grows ∙ ap (λ (l : List ℕ). l ++ framing.renders step.response) gathered.text_is
            ∙ ap (λ (l : List ℕ). responses backend framing gathered.steps ++ l) (sym (append-nil (framing.renders step.response)))
            ∙ sym (flat_map-append (λ (s : Step Q A). framing.renders s.response) gathered.steps (step ∷ []));
      },
      length-append gathered.steps (step ∷ []) ∙ ap (λ (n : ℕ). n + 1) counted,
    )

    -- the group is over
    pub gathers_over : (why : Halt A E H) → TakesOne backend framing middle at text (Some why) after to new → RunsGroup backend framing limits before from why after to new
    gathers_over why (no_pause, halts, same) = subst (RunsGroup backend framing limits before from why after to) (sym same) (record {
      middle = middle;
      at = at;
      gathered = gathered;
      halts = halts;
      is_over = is_over why gathered.steps (MayGoOn backend framing limits middle at text) no_pause ahead;
    })

  pub gathers_paused : (before : B) (from : F) (after : B) (to : F) (text : List ℕ) (count : ℕ) (gathered : Gathered backend framing limits before from after to text)
      → length gathered.steps ≡ count + 1 → RunsGroup backend framing limits before from halt.Pause after to text
  gathers_paused before from after to text count gathered counted =
      record { middle = after; at = to; gathered = gathered; halts = (refl, refl); is_over = has_steps gathered.steps count counted }

  -- the response that was not buffered counts as one of the group
  pub gathers_unbuffered : (before : B) (from : F) (response : A) (after : B) (to : F) (text : List ℕ)
      → RunsGroup backend framing limits before from (halt.Unbuffered response) after to text
      → RunsGroup backend framing limits before from halt.Pause after to (text ++ framing.renders response)
  gathers_unbuffered before from response after to text runs =
      let one = runs.halts in
      let more = gathered_more before from runs.middle runs.at text runs.gathered runs.is_over after to (text ++ framing.renders response)
      (length runs.gathered.steps) refl (record { request = one.request; bytes = one.bytes; response = response }, one.is, refl) in
      gathers_paused before from after to (text ++ framing.renders response) (length runs.gathered.steps) more.0 more.1
