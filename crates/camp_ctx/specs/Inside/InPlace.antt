-- A context and the patch after it, and when they stay in order as a primitive passes them.
use Rattle.std.specs.Prelude.{List, [], ◌∷◌, ◌++◌}
use Rattle.camp_prim.specs.Effect.{inverse_of}
use Rattle.camp_prim.specs.declared.named.Named.{Named}
use Rattle.camp_seq.specs.NormalOrder.{Norm}
use Rattle.camp_seq.specs.Room.{HasRoom}
use Rattle.camp_ctx.specs.Contexts.{ContextedPatch}

-- c:p, made from the context and the patch
abbrev pub in_context : List Named → Named → ContextedPatch
in_context c p = record { context = c; patch = p }

-- a has passed the context c and then p: if a^, c and p have headroom, c is its own normal order
abbrev pub KeepsOrder : Named → List Named → Named → Type 0
KeepsOrder a c p = HasRoom (inverse_of a ∷ (c ++ p ∷ [])) → Norm c c
