use Rattle.std.proofs.Common.{refl}
use Rattle.camp_prim.proofs.Moving.{no_swap, swap_made, told_not}
use Rattle.camp_prim.proofs.stays.commutes.Goals as goal

pub returns-in-None : goal.returns-in-None
returns-in-None c = record {
  exact = (λ yes. cc, λ w. absurd (no_swap c.args.p.now c.args.q.now c.in-None.ensures (w.0, w.1.0) w.1.1));
}

pub returns-in-Some : goal.returns-in-Some
returns-in-Some c = record {
  exact =
      (λ yes. swap_made c.args.p.now c.args.q.now c.in-Some.field-0 (told_not _ c.if-have_same_key.false c.have_same_key.ensures.exact) c.in-Some.ensures, λ w. refl);
}
