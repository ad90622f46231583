use Rattle.camp_ctx.proofs.Words.{whole}
use Rattle.camp_seq.proofs.OwnOrders.{and_last}
use Rattle.camp_ctx.proofs.OtherFiles.{no_conflict}
use Rattle.camp_ctx.specs.Inside.Apart.{ChangesOtherFiles}
use Rattle.camp_ctx.proofs.fast.elsewhere.are_elsewhere.Goals as goal

pub returns : goal.returns
returns c = λ yes.
    no_conflict c.args.x.now c.args.y.now (and_last (ChangesOtherFiles (whole c.args.y.now)) c.args.x.now.context c.args.x.now.patch (rw (c.items.ensures.exact, c.context.ensures.exact) at (c.all_elsewhere.ensures yes)) (rw c.patch.ensures.exact at (c.is_elsewhere.ensures c.if-not-is_elsewhere.false)))
