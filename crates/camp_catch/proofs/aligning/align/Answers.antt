use Rattle.std.proofs.lemmas.Result.{err_from_is_err_and}
use Rattle.camp_catch.proofs.Making.{blocks_too}
use Rattle.camp_catch.proofs.aligning.align.Goals as goal

pub returns-in_err-put_in_order : goal.returns-in_err-put_in_order
returns-in_err-put_in_order c =
    let p = err_from_is_err_and c.from_residual-in_err-put_in_order.result c.from_residual-in_err-put_in_order.ensures.1 in
    record { exact = rw (p.1, p.2) (blocks_too c.in_err-put_in_order.field-0.0 c.in_err-put_in_order.ensures.exact (λ what w. rw (c.deref_mut.ensures.value, c.in_ok-aligned.ensures) at w)) }
