-- When a list has headroom to be added to a contexted patch.
use Rattle.std.specs.Prelude.{◌≤◌, List, ◌++◌, All}
use Rattle.camp_base.specs.Limits.{greatest_reach}
use Rattle.camp_prim.specs.Effect.{InRange}
use Rattle.camp_prim.specs.declared.named.Named.{Named}
use Rattle.camp_seq.specs.Equivalence.{◌~◌}
use Rattle.camp_seq.specs.Room.{HasRoom}
use Rattle.camp_seq.specs.Shapes.{reach_of}
use Rattle.camp_ctx.specs.Adding.{AddsAll}
use Rattle.camp_ctx.specs.Contexts.{ContextedPatch, whole}

-- a list has headroom to be added: however it is reordered and split into first and last elements, the first ones
-- followed by the result of adding the last ones have headroom
abbrev pub HasRoomToAdd : List Named → ContextedPatch → Type 0
HasRoomToAdd r x =
    (first last : List Named) → r ~ (first ++ last) → (y : ContextedPatch) → AddsAll last x y → HasRoom (first ++ whole y)

-- with headroom, the result of adding a list does not depend on the order of its elements
abbrev pub AddsInAnyOrder : Type 0
AddsInAnyOrder =
    (r s : List Named) (x y : ContextedPatch) → HasRoomToAdd r x → r ~ s → AddsAll r x y → AddsAll s x y

-- if the primitives of a list, a context and a patch are in range, and the reach of all of them together is at most
-- 2^30, the list has headroom to be added
abbrev pub ReachGivesRoomToAdd : Type 0
ReachGivesRoomToAdd =
    (r : List Named) (x : ContextedPatch) → All (λ p. InRange p.prim) (r ++ whole x)
    → reach_of (r ++ whole x) ≤ greatest_reach → HasRoomToAdd r x
