-- The laws of contexted patches that the crates above build on.
use Rattle.std.specs.Prelude.{◌≡◌, List, []}
use Rattle.camp_base.specs.Trees.{Files}
use Rattle.camp_prim.specs.Effect.{Applies}
use Rattle.camp_prim.specs.declared.named.Named.{Named}
use Rattle.camp_seq.specs.Running.{AppliesAll}
use Rattle.camp_ctx.specs.Adding.{AddsToContext, AddsAll, PassesBy, PassesByAll}
use Rattle.camp_ctx.specs.Conflicts.{MergesCleanlyAfterCommon, Conflict}
use Rattle.camp_ctx.specs.Contexts.{ContextedPatch, Valid, ContextedPatches, AreValid, EachMember}

-- a relation has at most one result
abbrev pub HasAtMostOneResult : {X : Type 0} → (X → X → Type 0) → Type 0
HasAtMostOneResult {X} Change = (x y z : X) → Change x y → Change x z → y ≡ z

-- adding, commuting past and merging after a common part have at most one result each
pub record AddingIsUnique : Type 0 where
  pub adds : (a : Named) → HasAtMostOneResult (AddsToContext a)
  pub adds_all : (r : List Named) → HasAtMostOneResult (AddsAll r)
  pub adds_to_members : (a : Named) → HasAtMostOneResult (EachMember (AddsToContext a))
  pub adds_all_to_members : (r : List Named) → HasAtMostOneResult (EachMember (AddsAll r))
  pub passes_by : (a : Named) → HasAtMostOneResult (PassesBy a)
  pub passes_by_all : (r : List Named) → HasAtMostOneResult (PassesByAll r)
  pub merges :
      (s t t' s' u v : List Named) → MergesCleanlyAfterCommon s t t' s' → MergesCleanlyAfterCommon s t u v → (t' ≡ u) × (s' ≡ v)

-- a relation always has a result
abbrev pub AlwaysHasResult : {X : Type 0} → (X → X → Type 0) → Type 0
AlwaysHasResult {X} Change = (x : X) → (y : X) × Change x y

-- adding always has a result
pub record AddingHasResult : Type 0 where
  pub adds : (a : Named) → AlwaysHasResult (AddsToContext a)
  pub adds_all : (r : List Named) → AlwaysHasResult (AddsAll r)
  pub adds_to_members : (a : Named) → AlwaysHasResult (EachMember (AddsToContext a))
  pub adds_all_to_members : (r : List Named) → AlwaysHasResult (EachMember (AddsAll r))

-- if a step leads from one tree to another, the relation turns each contexted patch that is valid in the second tree
-- into one that is valid in the first
abbrev pub KeepsValid : (ContextedPatch → ContextedPatch → Type 0) → (Files → Files → Type 0) → Type 0
KeepsValid Change Step = (x y : ContextedPatch) → Change x y → (old new : Files) → Step old new → Valid new x → Valid old y

-- `KeepsValid` for each member of a set
abbrev pub KeepsMembersValid : (ContextedPatch → ContextedPatch → Type 0) → (Files → Files → Type 0) → Type 0
KeepsMembersValid Change Step =
    (xs ys : ContextedPatches) → EachMember Change xs ys →
    (old new : Files) → Step old new → AreValid new xs → AreValid old ys

-- adding and commuting past keep validity
pub record KeepValid : Type 0 where
  pub adds : (a : Named) → KeepsValid (AddsToContext a) (Applies a.prim)
  pub adds_all : (r : List Named) → KeepsValid (AddsAll r) (AppliesAll r)
  pub adds_to_members : (a : Named) → KeepsMembersValid (AddsToContext a) (Applies a.prim)
  pub adds_all_to_members : (r : List Named) → KeepsMembersValid (AddsAll r) (AppliesAll r)
  pub passes_by : (a : Named) → KeepsValid (PassesBy a) (Applies a.prim)
  pub passes_by_all : (r : List Named) → KeepsValid (PassesByAll r) (AppliesAll r)

-- adding the empty list leaves a contexted patch and a set unchanged
pub record EmptyChangesNothing : Type 0 where
  pub adds : (x y : ContextedPatch) → AddsAll [] x y → y ≡ x
  pub adds_to_members : (xs ys : ContextedPatches) → EachMember (AddsAll []) xs ys → ys ≡ xs

-- whether two lists merge after a common part, and whether two contexted patches conflict, does not depend on which of
-- them comes first
pub record AreSymmetric : Type 0 where
  pub merges : (s t t' s' : List Named) → MergesCleanlyAfterCommon s t t' s' → MergesCleanlyAfterCommon t s s' t'
  pub conflicts : (x y : ContextedPatch) → Conflict x y → Conflict y x
