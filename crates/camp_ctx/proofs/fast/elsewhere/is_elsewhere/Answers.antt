use Rattle.camp_seq.proofs.OwnOrders.{and_last}
use Rattle.camp_ctx.specs.Inside.Apart.{ChangeDifferentFiles}
use Rattle.camp_ctx.proofs.fast.elsewhere.is_elsewhere.Goals as goal

pub returns : goal.returns
returns c = λ yes.
    and_last (ChangeDifferentFiles c.args.p.now) c.args.y.now.context c.args.y.now.patch (rw (c.items.ensures.exact, c.context.ensures.exact) at (c.changes_other_files.ensures yes)) (rw c.patch.ensures.exact at (c.change_two_files.ensures c.if-not-change_two_files.false))
