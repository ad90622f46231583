-- The steps of a merge with a conflictor.
use Rattle.std.specs.Prelude.{◌≡◌, Bool, List, IsTrue, ◌↔◌}
use Rattle.camp_prim.specs.declared.named.Named.{Named}
use Rattle.camp_seq.specs.NormalOrder.{Norm}
use Rattle.camp_ctx.specs.Adding.{AddsAll}
use Rattle.camp_ctx.specs.Conflicts.{MergesCleanlyAfterCommon, Conflict}
use Rattle.camp_ctx.specs.Contexts.{ContextedPatch, bare}
use Rattle.camp_catch.specs.Merging.{JoinsWhere}
use Rattle.camp_catch.specs.declared.catches.Catch.{Catch}
use Rattle.camp_catch.specs.declared.catches.Conflictor.{Conflictor}

-- r | s -> s2 | r2: two effects merge after their common part, each in normal order
pub record EffectsMerge (r s s2 r2 : List Named) : Type 0 where
  pub merged : List Named
  pub left : List Named
  pub merge : MergesCleanlyAfterCommon r s merged left
  pub effect : Norm merged s2
  pub own_effect : Norm left r2

-- `found` is true exactly if a patch conflicts with the identity of a conflictor, as seen before its effect
pub record DecidesPlainConflict (a : Named) (k : Conflictor) (found : Bool) : Type 0 where
  pub seen : ContextedPatch
  pub sees : AddsAll k.effect k.identity seen
  pub tells : IsTrue found ↔ Conflict (bare a) seen

-- `found` is true exactly if two identities conflict, as seen before the effects
pub record DecidesConflict (j k : Conflictor) (found : Bool) : Type 0 where
  pub x : ContextedPatch
  pub y : ContextedPatch
  pub own_sees : AddsAll j.effect j.identity x
  pub sees : AddsAll k.effect k.identity y
  pub tells : IsTrue found ↔ Conflict x y

-- if the identities of two conflictors conflict, each gains the other's as a conflict; else both stay unchanged
pub record GainEachOther (in_conflict : Bool) (moved own : Conflictor) (k' j' : Catch) : Type 0 where
  pub joined : Conflictor
  pub own_joined : Conflictor
  pub joins : JoinsWhere (IsTrue in_conflict) own.identity moved joined
  pub own_joins : JoinsWhere (IsTrue in_conflict) moved.identity own own_joined
  pub after : k' ≡ Catch.Conflictor joined
  pub beside : j' ≡ Catch.Conflictor own_joined
