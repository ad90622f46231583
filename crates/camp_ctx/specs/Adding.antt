-- Adding a primitive or a list to a contexted patch: turns what is seen after it into what is seen before it.
use Rattle.std.specs.Prelude.{◌≡◌, List, [], ◌∷◌}
use Rattle.camp_prim.specs.Effect.{inverse_of}
use Rattle.camp_prim.specs.Labels.{label_of}
use Rattle.camp_prim.specs.Commuting.{Commute}
use Rattle.camp_prim.specs.declared.named.Named.{Named}
use Rattle.camp_seq.specs.NormalOrder.{Norm}
use Rattle.camp_seq.specs.Passing.{Passes, Fronts}
use Rattle.camp_ctx.specs.Contexts.{ContextedPatch}

-- cancel: a and c:p give c':p, where c ~ a^ c' (the inverse of a can be moved to the front of c, and is dropped)
pub record Cancels (a : Named) (x y : ContextedPatch) : Type 0 where
  pub rest : List Named
  pub front : Fronts (label_of (inverse_of a)) x.context (inverse_of a) rest
  pub context : Norm rest y.context
  pub patch : y.patch ≡ x.patch

-- commute: a and c:p give c':p', where a c ~ c' a' and a' p <-> p' a''; a passes c:p
pub record PassesBy (a : Named) (x y : ContextedPatch) : Type 0 where
  pub a' : Named
  pub a'' : Named
  pub passed : List Named
  pub past_context : Passes a x.context passed a'
  pub past_patch : Commute a' x.patch y.patch a''
  pub context : Norm passed y.context

-- keep: a and c:p give a c:p
pub record Keeps (a : Named) (x y : ContextedPatch) : Type 0 where
  pub context : Norm (a ∷ x.context) y.context
  pub patch : y.patch ≡ x.patch

-- a relation has no result for this contexted patch
abbrev pub HasNoResult : (ContextedPatch → ContextedPatch → Type 0) → ContextedPatch → Type 0
HasNoResult Change x = (y : ContextedPatch) → ¬ (Change x y)

-- adding a to a contexted patch: of cancel, commute and keep, the first that has a result
pub data AddsToContext (a : Named) (x y : ContextedPatch) : Type 0 where
  cancel : Cancels a x y → AddsToContext a x y
  commute : HasNoResult (Cancels a) x → PassesBy a x y → AddsToContext a x y
  keep : HasNoResult (Cancels a) x → HasNoResult (PassesBy a) x → Keeps a x y → AddsToContext a x y

-- a contexted patch is changed by the relation of each element of a list, from the last element to the first
abbrev pub FromLast : (Named → ContextedPatch → ContextedPatch → Type 0) → List Named → ContextedPatch → ContextedPatch → Type 0
FromLast Change [] x z = z ≡ x
FromLast Change (a ∷ r) x z = (y : ContextedPatch) × FromLast Change r x y × Change a y z

-- adding a list to a contexted patch
abbrev pub AddsAll : List Named → ContextedPatch → ContextedPatch → Type 0
AddsAll = FromLast AddsToContext

-- commuting a list past a contexted patch
abbrev pub PassesByAll : List Named → ContextedPatch → ContextedPatch → Type 0
PassesByAll = FromLast PassesBy
