-- When two catches, one after the other, commute, and to which two. In the cases j is [a] or (r, X, i), and k is [b] or
-- (s, Y, l): r and s are effects, X, Y and Z sets of conflicts, i and l identities. Each list that a case makes is put
-- in normal order, except an inverse s^. A catch is in a set if the set has its absolute label.
use Rattle.std.specs.Prelude.{◌≡◌, ◌≢◌, ◌⊎◌, ◌≤◌, ◌&&◌, List, [], ◌∷◌, ◌++◌, map, filter, Some, None}
use Rattle.std.specs.List.{All}
use Rattle.std.specs.FinMap.{get, contains_key, remove, len}
use Rattle.camp_prim.specs.Effect.{inverse_of}
use Rattle.camp_prim.specs.Labels.{label_of}
use Rattle.camp_prim.specs.declared.labels.Label.{Label}
use Rattle.camp_prim.specs.Commuting.{Commute}
use Rattle.camp_prim.specs.declared.named.Named.{Named}
use Rattle.camp_seq.specs.NormalOrder.{Norm, Splits}
use Rattle.camp_seq.specs.Passing.{Passes, PassesAll, Fronts}
use Rattle.camp_seq.specs.Running.{inverse_all}
use Rattle.camp_ctx.specs.Adding.{AddsToContext, AddsAll, PassesBy, PassesByAll}
use Rattle.camp_ctx.specs.Contexts.{ContextedPatch, ContextedPatches, bare, only, patch_key, context_key}
use Rattle.camp_catch.specs.Conflictors.{Becomes, against, in_conflict_with, joined_by, with_effect, without}
use Rattle.camp_catch.specs.declared.catches.Catch.{Catch}
use Rattle.camp_catch.specs.declared.catches.Catch.TheVariants.{Plain}
use Rattle.camp_catch.specs.declared.catches.Conflictor.{Conflictor}

-- both plain
-- [a] [b] <-> [b'] [a']
pub record BothPlain (a b : Named) (k' j' : Catch) : Type 0 where
  pub b' : Named
  pub a' : Named
  pub swap : Commute a b b' a'
  pub second : k' ≡ Plain b'
  pub first : j' ≡ Plain a'

-- plain past conflictor: a is not in Y; a s ~ s' a', and a' passes l
-- [a] (s, Y, l) <-> (s', Y', l') [a'], where a' added to Y gives Y'
pub record PlainPastConflictor (a : Named) (k : Conflictor) (k' j' : Catch) : Type 0 where
  pub apart : get k.conflicts (patch_key a) ≡ None
  pub passed : List Named
  pub a' : Named
  pub passes : Passes a k.effect passed a'
  pub moved : Conflictor
  pub becomes : Becomes (Norm passed) (AddsToContext a') (PassesBy a') k moved
  pub second : k' ≡ Catch.Conflictor moved
  pub first : j' ≡ Plain a'

-- conflictor past plain: r b ~ b' r', and b^ passes i
-- (r, X, i) [b] <-> [b'] (r', X', i'), where b^ added to X gives X'
pub record ConflictorPastPlain (j : Conflictor) (b : Named) (k' j' : Catch) : Type 0 where
  pub b' : Named
  pub left : List Named
  pub passes : PassesAll j.effect (b ∷ []) (b' ∷ []) left
  pub moved : Conflictor
  pub becomes : Becomes (Norm left) (AddsToContext (inverse_of b)) (PassesBy (inverse_of b)) j moved
  pub second : k' ≡ Plain b'
  pub first : j' ≡ Catch.Conflictor moved

-- the labels of the inverses in r whose absolute labels are in a set
abbrev pub labels_undone : List Named → ContextedPatches → List Label
labels_undone r ys = map label_of (filter (λ p. p.inverse && contains_key ys (patch_key p)) r)

-- two effects commute, except that those primitives of r stay first that undo a member of Y: r is split by their labels
-- common rr s ~ common s' rr', where r ~ common rr by the labels undone, and rr s ~ s' rr'
pub record EffectsPass (r s : List Named) (ys : ContextedPatches) (effect rr' : List Named) : Type 0 where
  pub common : List Named
  pub rr : List Named
  pub split : Splits (labels_undone r ys) r common rr
  pub passed : List Named
  pub left : List Named
  pub passes : PassesAll rr s passed left
  pub s' : List Named
  pub second : Norm passed s'
  pub first : Norm left rr'
  pub whole : Norm (common ++ s') effect

-- two conflictors apart: j is not in Y, nor in the context of l; rr' passes by l
-- (common rr, X, i) (s, Y, l) <-> (common s', Y', l') (rr', X', i')
-- where rr' added to Y gives Y', and s^ added to X and i gives X' and i'
pub record TwoConflictorsApart (j k : Conflictor) (k' j' : Catch) : Type 0 where
  pub apart : get k.conflicts (context_key j.identity) ≡ None
  pub unseen : All (λ p. patch_key p ≢ context_key j.identity) k.identity.context
  pub effect : List Named
  pub rr' : List Named
  pub effects : EffectsPass j.effect k.effect k.conflicts effect rr'
  pub moved : Conflictor
  pub becomes : Becomes (λ s. s ≡ effect) (AddsAll rr') (PassesByAll rr') k moved
  pub own : Conflictor
  pub own_becomes : Becomes (λ r. r ≡ rr') (AddsAll (inverse_all k.effect)) (AddsAll (inverse_all k.effect)) j own
  pub second : k' ≡ Catch.Conflictor moved
  pub first : j' ≡ Catch.Conflictor own

-- the conflict dissolves: k conflicts with a alone and undoes it [a] ([a^], {:a}, :q) <-> [q] ([q^], {:q}, :a)
pub record ConflictDissolves (a : Named) (k : Conflictor) (k' j' : Catch) : Type 0 where
  pub q : Named
  pub is : k ≡ against a q
  pub second : k' ≡ Plain q
  pub first : j' ≡ Catch.Conflictor (against q a)

-- plain leaves the set: a is in Y, as z with its label, and not alone; s ~ a^ s'
-- [a] (s, Y, l) <-> (s', Y without a, l) ([], {l}, z)
pub record PlainLeavesTheSet (a : Named) (k : Conflictor) (k' j' : Catch) : Type 0 where
  pub z : ContextedPatch
  pub member : get k.conflicts (patch_key a) ≡ Some z
  pub named : context_key z ≡ patch_key a
  pub several : 2 ≤ len k.conflicts
  pub rest : List Named
  pub front : Fronts (label_of (inverse_of a)) k.effect (inverse_of a) rest
  pub s' : List Named
  pub effect : Norm rest s'
  pub second : k' ≡ Catch.Conflictor (with_effect s' (without (patch_key a) k))
  pub first : j' ≡ Catch.Conflictor (in_conflict_with k.identity z)

-- the only conflict goes: k has no effect and conflicts with j alone; r added to l gives :a
-- (r, X, i) ([], {x}, l) <-> [a] (a^ r, X and l, i)
pub record OnlyConflictGoes (j k : Conflictor) (k' j' : Catch) : Type 0 where
  pub x : ContextedPatch
  pub named : context_key x ≡ context_key j.identity
  pub no_effect : k.effect ≡ []
  pub alone : k.conflicts ≡ only x
  pub a : Named
  pub becomes : AddsAll j.effect k.identity (bare a)
  pub effect : List Named
  pub joined : Norm (inverse_of a ∷ j.effect) effect
  pub second : k' ≡ Plain a
  pub first : j' ≡ Catch.Conflictor (with_effect effect (joined_by k.identity j))

-- one of several conflicts: j is in Y, and not alone; Z is Y without j
-- (common rr, X, i) (s, Y, l) <-> (common s', Z', l') (rr', X' and l, i')
-- where rr' added to Z and l gives Z' and l', and s^ added to X and i gives X' and i'
pub record OneOfSeveralConflicts (j k : Conflictor) (k' j' : Catch) : Type 0 where
  pub z : ContextedPatch
  pub member : get k.conflicts (context_key j.identity) ≡ Some z
  pub several : 2 ≤ len k.conflicts
  pub effect : List Named
  pub rr' : List Named
  pub effects : EffectsPass j.effect k.effect (remove k.conflicts (context_key j.identity)) effect rr'
  pub moved : Conflictor
  pub becomes : Becomes (λ s. s ≡ effect) (AddsAll rr') (AddsAll rr') (without (context_key j.identity) k) moved
  pub own : Conflictor
  pub own_becomes : Becomes (λ r. r ≡ rr') (AddsAll (inverse_all k.effect)) (AddsAll (inverse_all k.effect)) j own
  pub second : k' ≡ Catch.Conflictor moved
  pub first : j' ≡ Catch.Conflictor (joined_by k.identity own)

-- a plain catch before a conflictor
abbrev pub CommutePlainConflictor : Named → Conflictor → Catch → Catch → Type 0
CommutePlainConflictor a k k' j' =
    PlainPastConflictor a k k' j' ⊎ (ConflictDissolves a k k' j' ⊎ PlainLeavesTheSet a k k' j')

-- a conflictor before a conflictor
abbrev pub CommuteConflictors : Conflictor → Conflictor → Catch → Catch → Type 0
CommuteConflictors j k k' j' =
    TwoConflictorsApart j k k' j' ⊎ (OnlyConflictGoes j k k' j' ⊎ OneOfSeveralConflicts j k k' j')

-- j k <-> k' j': one of the cases of their kinds holds
abbrev pub CommuteCatch : Catch → Catch → Catch → Catch → Type 0
CommuteCatch (Plain a) (Plain b) k' j' = BothPlain a b k' j'
CommuteCatch (Plain a) (Catch.Conflictor k) k' j' = CommutePlainConflictor a k k' j'
CommuteCatch (Catch.Conflictor j) (Plain b) k' j' = ConflictorPastPlain j b k' j'
CommuteCatch (Catch.Conflictor j) (Catch.Conflictor k) k' j' = CommuteConflictors j k k' j'

-- commuting these two may run out of memory: any two, except plain ones that do not commute
abbrev pub CommuteMayAllocate : Catch → Catch → Type 0
CommuteMayAllocate (Plain a) (Plain b) = (b' : Named) × ((a' : Named) × Commute a b b' a')
CommuteMayAllocate (Plain a) (Catch.Conflictor k) = Unit {0}
CommuteMayAllocate (Catch.Conflictor j) k = Unit {0}
