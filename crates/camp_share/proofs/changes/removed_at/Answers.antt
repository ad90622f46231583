use Rattle.camp_share.proofs.Words.{◌+◌, arith, IfOk-weaker}
use Rattle.camp_share.proofs.PartLemmas.{front_within, removed_between}
use Rattle.camp_share.proofs.changes.removed_at.Goals as goal

pub overflow_add-place : goal.overflow_add-place
overflow_add-place g c = let within = front_within c.args.parts.now (c.args.index + 1) in omega (arith, c.requires.place.1, c.requires.fits)

pub returns-clause-items : goal.returns-clause-items
returns-clause-items g c = IfOk-weaker c.with_rest.result _ _ (λ new is. removed_between _ _ _ _ _ c.in_ok-change.ensures (omega arith) is) c.with_rest.ensures.items
