-- Catches: their labels, their effects, and the trees that they fit.
use Rattle.std.specs.Prelude.{◌≡◌, List, [], ◌∷◌}
use Rattle.camp_base.specs.Trees.{Files}
use Rattle.camp_prim.specs.declared.named.Named.{Named}
use Rattle.camp_seq.specs.Running.{AppliesAll}
use Rattle.camp_ctx.specs.Contexts.{Valid, AreValid, patch_key, context_key}
use Rattle.camp_prim.specs.declared.labels.Key.{Key}
use Rattle.camp_catch.specs.declared.catches.Catch.{Catch}
use Rattle.camp_catch.specs.declared.catches.Catch.TheVariants.{Plain}

-- the absolute label of a catch: that of its patch, or of its identity
abbrev pub catch_key : Catch → Key
catch_key (Plain a) = patch_key a
catch_key (Catch.Conflictor k) = context_key k.identity

-- the effect of a catch, as a list of primitives
abbrev pub effect_of : Catch → List Named
effect_of (Plain a) = a ∷ []
effect_of (Catch.Conflictor k) = k.effect

-- the conflicts and the identity of a conflictor are valid in a tree; a plain catch has neither
abbrev pub IsSeenFrom : Files → Catch → Type 0
IsSeenFrom tree (Plain a) = Unit {0}
IsSeenFrom tree (Catch.Conflictor k) = AreValid tree k.conflicts × Valid tree k.identity

-- a catch fits a tree and leads to another: its effect leads there, and its conflicts and its identity are
-- valid there
pub record Fits (j : Catch) (old new : Files) : Type 0 where
  pub effect : AppliesAll (effect_of j) old new
  pub seen : IsSeenFrom new j

-- catches fit a tree one after the other and lead to another
abbrev pub FitsAll : List Catch → Files → Files → Type 0
FitsAll [] old new = new ≡ old
FitsAll (j ∷ js) old new = (between : Files) × Fits j old between × FitsAll js between new
