-- Primitives whose addition only inserts them before a context.
use Rattle.std.specs.Prelude.{◌≢◌, ℕ, ◌<◌, ◌≤◌, List, [], ◌∷◌, ◌++◌, length, drop}
use Rattle.camp_prim.specs.Effect.{inverse_of}
use Rattle.camp_prim.specs.Labels.{label_of}
use Rattle.camp_prim.specs.declared.named.Named.{Named}
use Rattle.camp_seq.specs.Chains.{CanCommute, Chain}
use Rattle.camp_ctx.specs.Adding.{AddsAll}

-- a neither commutes with nor cancels the element after it: the first of the list or, after an empty list, the patch
abbrev pub Links : Named → List Named → Named → Type 0
Links a [] patch = ¬ (CanCommute a patch)
Links a (q ∷ s) patch = ¬ (CanCommute a q) × (label_of q ≢ label_of (inverse_of a))

-- adding the elements from index `at` on only inserts them before the context; if there are any, no two neighbours of
-- the new context commute
abbrev pub LinksFrom : List Named → List Named → Named → ℕ → Type 0
LinksFrom r s patch at =
    (at ≤ length r)
    × AddsAll (drop at r) (record { context = s; patch = patch }) (record { context = drop at r ++ s; patch = patch })
    × (at < length r → Chain (drop at r ++ s))
