-- Conflictors (r, X, i): the effect r, the conflicts X and the identity i; and conflictors made from others.
use Rattle.std.specs.Prelude.{List, [], ◌∷◌}
use Rattle.std.specs.FinMap.{remove}
use Rattle.camp_prim.specs.Effect.{inverse_of}
use Rattle.camp_prim.specs.declared.labels.Key.{Key}
use Rattle.camp_prim.specs.declared.named.Named.{Named}
use Rattle.camp_ctx.specs.Contexts.{ContextedPatch, ContextedPatches, EachMember, bare, only, with_member}
use Rattle.camp_catch.specs.declared.catches.Conflictor.{Conflictor}

-- ([a^], {:a}, :b): b in its first conflict: it conflicts with a alone and undoes it
abbrev pub against : Named → Named → Conflictor
against a b = record { effect = inverse_of a ∷ []; conflicts = only (bare a); identity = bare b }

-- ([], {l}, i): a conflict with l alone, without an effect
abbrev pub in_conflict_with : ContextedPatch → ContextedPatch → Conflictor
in_conflict_with l i = record { effect = []; conflicts = only l; identity = i }

-- (s, X, i): the conflictor with another effect
abbrev pub with_effect : List Named → Conflictor → Conflictor
with_effect s k = record { effect = s; conflicts = k.conflicts; identity = k.identity }

-- (r, Y, i): the conflictor with other conflicts
abbrev pub with_conflicts : ContextedPatches → Conflictor → Conflictor
with_conflicts ys k = record { effect = k.effect; conflicts = ys; identity = k.identity }

-- (r, X and l, i): the conflictor with l as a further conflict
abbrev pub joined_by : ContextedPatch → Conflictor → Conflictor
joined_by l k = with_conflicts (with_member k.conflicts l) k

-- (r, X without a label, i): the conflictor without the member of X that has this absolute label
abbrev pub without : Key → Conflictor → Conflictor
without key k = with_conflicts (remove k.conflicts key) k

-- (r, X, i) becomes (r', X', i'): the first relation leads from r to r', the second from each member of X to one of X',
-- and the third from i to i'
pub record Becomes (IsEffect : List Named → Type 0) (ChangesMember ChangesIdentity : ContextedPatch → ContextedPatch → Type 0)
    (old new : Conflictor) : Type 0 where
  pub effect : IsEffect new.effect
  pub conflicts : EachMember ChangesMember old.conflicts new.conflicts
  pub identity : ChangesIdentity old.identity new.identity
