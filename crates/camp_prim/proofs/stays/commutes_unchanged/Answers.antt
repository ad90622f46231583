use Rattle.camp_prim.proofs.Moving.{no_swap}
use Rattle.camp_prim.proofs.stays.commutes_unchanged.Goals as goal

pub returns-in-None : goal.returns-in-None
returns-in-None c = record {
  exact =
      (λ yes. cc, λ swap. absurd (no_swap c.args.p.now c.args.q.now c.in-None.ensures (c.args.q.now, c.args.p.now) swap));
}
