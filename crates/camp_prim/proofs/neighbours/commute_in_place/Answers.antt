use Rattle.camp_prim.proofs.Words.{refl}
use Rattle.camp_prim.proofs.Moving.{no_swap}
use Rattle.camp_prim.proofs.neighbours.commute_in_place.Goals as goal

pub returns-in-None : goal.returns-in-None
returns-in-None c = record { exact = (λ any. no_swap c.args.p.now c.args.q.now c.in-None.ensures (any.1, any.0), refl) }
