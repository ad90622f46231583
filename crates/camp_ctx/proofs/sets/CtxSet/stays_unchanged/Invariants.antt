use Rattle.camp_ctx.proofs.Words.{ℕ, ◌<◌, slice_get, AddsToContext, ChangesAt}
use Rattle.camp_ctx.proofs.SetSteps.{members_of}
use Rattle.camp_ctx.proofs.sets.CtxSet.stays_unchanged.Given as goal

abbrev pub invariant-loop-index : goal.invariant-loop-index
invariant-loop-index l =
    (k : ℕ) → k < l.index → ChangesAt (AddsToContext l.a) (slice_get (members_of l.self) k) (slice_get (members_of l.self) k)
