use Rattle.std.proofs.Common.{IsTrue}
use Rattle.camp_ctx.proofs.Words.{subst, Passes, PassesBy}
use Rattle.camp_ctx.proofs.Standing.{passes_as_it_is, stays_put}
use Rattle.camp_ctx.specs.Inside.InPlace.{in_context}
use Rattle.camp_ctx.proofs.fast.stays.stays.Goals as goal

pub returns : goal.returns
returns c =
    let a = c.args.a.now in
    let x = in_context c.args.context.now c.args.patch.now in
    let passes = subst (λ s. Passes a s s a) c.items.ensures.exact (c.stays_past.ensures.sound c.if-not-stays_past.false) in
    let own = c.requires c.if-not-told.false in
    let by : IsTrue c.commutes_unchanged.result → PassesBy a x x = λ yes. passes_as_it_is a x passes own (c.commutes_unchanged.ensures.exact.0 yes) in
    record { sound = λ yes. stays_put a x passes (by yes); passes = by }
