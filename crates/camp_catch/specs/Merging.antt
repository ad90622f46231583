-- The merge of two catches that begin in the same state: k' after j, and j' after k. Letters mean what they mean in
-- commuting; each list that a case makes is in normal order.
use Rattle.std.specs.Prelude.{◌≡◌, ◌⊎◌, List, ◌∷◌}
use Rattle.camp_prim.specs.Effect.{inverse_of}
use Rattle.camp_prim.specs.declared.named.Named.{Named}
use Rattle.camp_seq.specs.Merging.{Merges, MergesOne}
use Rattle.camp_seq.specs.NormalOrder.{Norm}
use Rattle.camp_seq.specs.Running.{inverse_all}
use Rattle.camp_ctx.specs.Adding.{AddsToContext, AddsAll}
use Rattle.camp_ctx.specs.Conflicts.{MergesCleanlyAfterCommon, Conflict}
use Rattle.camp_ctx.specs.Contexts.{ContextedPatch, bare}
use Rattle.camp_catch.specs.Conflictors.{Becomes, against, in_conflict_with, joined_by, with_effect}
use Rattle.camp_catch.specs.declared.catches.Catch.{Catch}
use Rattle.camp_catch.specs.declared.catches.Catch.TheVariants.{Plain}
use Rattle.camp_catch.specs.declared.catches.Conflictor.{Conflictor}

-- clean: a and b merge cleanly
-- [a] | [b] -> [b'] | [a']
pub record Clean (a b : Named) (k' j' : Catch) : Type 0 where
  pub b' : Named
  pub a' : Named
  pub merge : Merges a b b' a'
  pub after : k' ≡ Plain b'
  pub beside : j' ≡ Plain a'

-- first conflict: a and b do not merge cleanly
-- [a] | [b] -> ([a^], {:a}, :b) | ([b^], {:b}, :a)
pub record FirstConflict (a b : Named) (k' j' : Catch) : Type 0 where
  pub no_merge : (b' a' : Named) → ¬ (Merges a b b' a')
  pub after : k' ≡ Catch.Conflictor (against a b)
  pub beside : j' ≡ Catch.Conflictor (against b a)

-- plain beside conflictor: :a does not conflict with l as seen before s; a and s merge cleanly to s' and a'
-- [a] | (s, Y, l) -> (s', Y', l') | [a'], where a'^ added to Y and l gives Y', l'
pub record PlainBesideConflictor (a : Named) (k : Conflictor) (k' j' : Catch) : Type 0 where
  pub seen : ContextedPatch
  pub sees : AddsAll k.effect k.identity seen
  pub apart : ¬ (Conflict (bare a) seen)
  pub merged : List Named
  pub a' : Named
  pub merge : MergesOne a k.effect merged a'
  pub moved : Conflictor
  pub becomes : Becomes (Norm merged) (AddsToContext (inverse_of a')) (AddsToContext (inverse_of a')) k moved
  pub after : k' ≡ Catch.Conflictor moved
  pub beside : j' ≡ Plain a'

-- plain joins conflictor: :a conflicts with l as seen before s; z is :a as seen after s
-- [a] | (s, Y, l) -> (a^ s, Y and z, l) | ([], {l}, z)
pub record PlainJoinsConflictor (a : Named) (k : Conflictor) (k' j' : Catch) : Type 0 where
  pub seen : ContextedPatch
  pub sees : AddsAll k.effect k.identity seen
  pub conflict : Conflict (bare a) seen
  pub z : ContextedPatch
  pub becomes : AddsAll (inverse_all k.effect) (bare a) z
  pub effect : List Named
  pub joined : Norm (inverse_of a ∷ k.effect) effect
  pub after : k' ≡ Catch.Conflictor (with_effect effect (joined_by z k))
  pub beside : j' ≡ Catch.Conflictor (in_conflict_with k.identity z)

-- a plain catch beside a conflictor
abbrev pub MergePlainConflictor : Named → Conflictor → Catch → Catch → Type 0
MergePlainConflictor a k k' j' = PlainBesideConflictor a k k' j' ⊎ PlainJoinsConflictor a k k' j'

-- the mirror: a conflictor j and a plain catch b merge as b and j do (the two cases above), with the results exchanged
-- (r, X, i) | [b] -> [b'] | (r', X', i'), or ([], {i}, z) | (b^ r, X and z, i)
abbrev pub Mirror : Conflictor → Named → Catch → Catch → Type 0
Mirror j b k' j' = MergePlainConflictor b j j' k'

-- a conflictor gains l as a conflict if the given fact holds; else it is unchanged
abbrev pub JoinsWhere : Type 0 → ContextedPatch → Conflictor → Conflictor → Type 0
JoinsWhere Holds l old new = (Holds × (new ≡ joined_by l old)) ⊎ ((¬ Holds) × (new ≡ old))

-- two conflictors: r ~ common r1 and s ~ common s1; r1 and s1 merge cleanly to s2 and r2
-- (r, X, i) | (s, Y, l) -> (s2, Y', l') | (r2, X', i'), where r2^ added to Y and l gives Y' and l', and s2^ to X and i
-- gives X' and i'; where i and l conflict, as seen before r and s, i' joins Y' and l' joins X'
pub record TwoConflictors (j k : Conflictor) (k' j' : Catch) : Type 0 where
  pub merged : List Named
  pub left : List Named
  pub merge : MergesCleanlyAfterCommon j.effect k.effect merged left
  pub s2 : List Named
  pub r2 : List Named
  pub effect : Norm merged s2
  pub own_effect : Norm left r2
  pub moved : Conflictor
  pub own : Conflictor
  pub becomes : Becomes (λ s. s ≡ s2) (AddsAll (inverse_all r2)) (AddsAll (inverse_all r2)) k moved
  pub own_becomes : Becomes (λ r. r ≡ r2) (AddsAll (inverse_all s2)) (AddsAll (inverse_all s2)) j own
  pub y : ContextedPatch
  pub x : ContextedPatch
  pub sees : AddsAll k.effect k.identity y
  pub own_sees : AddsAll j.effect j.identity x
  pub joined : Conflictor
  pub own_joined : Conflictor
  pub joins : JoinsWhere (Conflict x y) own.identity moved joined
  pub own_joins : JoinsWhere (Conflict x y) moved.identity own own_joined
  pub after : k' ≡ Catch.Conflictor joined
  pub beside : j' ≡ Catch.Conflictor own_joined

-- j and k merge to k' after j and j' after k: one of the cases of their kinds holds
abbrev pub MergeCatch : Catch → Catch → Catch → Catch → Type 0
MergeCatch (Plain a) (Plain b) k' j' = Clean a b k' j' ⊎ FirstConflict a b k' j'
MergeCatch (Plain a) (Catch.Conflictor k) k' j' = MergePlainConflictor a k k' j'
MergeCatch (Catch.Conflictor j) (Plain b) k' j' = Mirror j b k' j'
MergeCatch (Catch.Conflictor j) (Catch.Conflictor k) k' j' = TwoConflictors j k k' j'
