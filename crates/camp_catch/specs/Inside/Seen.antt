-- Conflictors made from others by private functions.
use Rattle.std.specs.Prelude.{◌≡◌, List, ◌∷◌, ◌++◌}
use Rattle.std.specs.FinMap.{remove}
use Rattle.camp_prim.specs.Effect.{inverse_of}
use Rattle.camp_prim.specs.declared.labels.Key.{Key}
use Rattle.camp_prim.specs.declared.named.Named.{Named}
use Rattle.camp_seq.specs.NormalOrder.{Norm}
use Rattle.camp_ctx.specs.Adding.{AddsAll}
use Rattle.camp_ctx.specs.Contexts.{ContextedPatch, context_key}
use Rattle.camp_catch.specs.Commuting.{EffectsPass}
use Rattle.camp_catch.specs.Conflictors.{Becomes, joined_by, with_effect, without}
use Rattle.camp_catch.specs.declared.catches.Conflictor.{Conflictor}

-- (s', X and l, i), where s' is a^ r in normal order
pub record InvertsPatch (a : Named) (k : Conflictor) (l : ContextedPatch) (made : Conflictor) : Type 0 where
  pub s' : List Named
  pub effect : Norm (inverse_of a ∷ k.effect) s'
  pub is : made ≡ with_effect s' (joined_by l k)

-- (r, X, i) becomes (s, X' and l, i'), where t added to X and to i gives X' and i'
pub record JoinedAfter (t s : List Named) (k : Conflictor) (l : ContextedPatch) (made : Conflictor) : Type 0 where
  pub moved : Conflictor
  pub becomes : Becomes (λ effect. effect ≡ s) (AddsAll t) (AddsAll t) k moved
  pub is : made ≡ joined_by l moved

-- (r, Y, l) becomes (s, Y and i', l), where t added to i gives i'
abbrev pub JoinedByAdded : List Named → ContextedPatch → Conflictor → Conflictor → Type 0
JoinedByAdded t i k made = (i' : ContextedPatch) × AddsAll t i i' × (made ≡ joined_by i' k)

-- one of several conflicts goes: (s, Y, l) after (common rr, X, i) becomes (common s', Z', l') before it, where rr s
-- <-> s' rr', Z is Y without the patch of the first conflictor, and rr' added to Z and l gives Z' and l'
pub record LeavesTheOthers (j k moved : Conflictor) (rr' : List Named) : Type 0 where
  pub effect : List Named
  pub effects : EffectsPass j.effect k.effect (remove k.conflicts (context_key j.identity)) effect rr'
  pub becomes : Becomes (λ s. s ≡ effect) (AddsAll rr') (AddsAll rr') (without (context_key j.identity) k) moved

-- (s', X without a label, i), where s' is s in normal order
pub record LeavesSet (key : Key) (s : List Named) (k made : Conflictor) : Type 0 where
  pub s' : List Named
  pub effect : Norm s s'
  pub is : made ≡ with_effect s' (without key k)

-- `common` followed by the normal order of s, and the whole in normal order
abbrev pub JoinsInOrder : List Named → List Named → List Named → Type 0
JoinsInOrder common s joined = (s' : List Named) × Norm s s' × Norm (common ++ s') joined
