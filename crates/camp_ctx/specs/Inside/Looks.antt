-- The representation of a contexted patch, with the results of its quick checks.
use Rattle.std.specs.Prelude.{IsTrue}
use Rattle.camp_seq.specs.NormalOrder.{Norm}
use Rattle.camp_ctx.specs.Contexts.{ContextedPatch, whole}
use Rattle.camp_ctx.specs.declared.contexted.Contexted.TheInside.{Inside}

-- the contexted patch that the fields represent
abbrev pub seen : Inside → ContextedPatch
seen x = record { context = x.parts.context; patch = x.parts.patch }

-- the results of the quick checks are true: the context is its own normal order, and so is the whole
pub record ChecksAreTrue (x : Inside) : Type 0 where
  pub context : IsTrue x.parts.context_is_ordered → Norm x.parts.context x.parts.context
  pub all : IsTrue x.parts.whole_is_ordered → Norm (whole (seen x)) (whole (seen x))
