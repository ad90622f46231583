use Rattle.camp_ctx.proofs.Words.{◌≡◌, sym, ◌∙◌, false, has_label, label_of, whole}
use Rattle.camp_seq.proofs.OwnOrders.{and_last}
use Rattle.camp_ctx.proofs.fast.conflicts.have_no_common_label.Goals as goal

pub returns : goal.returns
returns c = λ yes.
    and_last (λ p. has_label (whole c.args.y.now) (label_of p) ≡ false) c.args.x.now.context c.args.x.now.patch (rw (c.items.ensures.exact, c.context.ensures.exact) at (c.names_none.ensures yes)) (rw c.patch.ensures.exact at (sym c.names.ensures ∙ c.if-names.false))
