use Rattle.camp_ctx.proofs.Words.{AddsToContext}
use Rattle.camp_ctx.proofs.Standing.{each_is_same}
use Rattle.camp_ctx.proofs.sets.CtxSet.stays_unchanged.Goals as goal

pub returns : goal.returns
returns c = record { sound = λ yes. each_is_same (AddsToContext c.args.a.now) c.args.self.now _ _ c.len-index-end.ensures.value c.loop-index-test.false c.loop-index.invariant }
