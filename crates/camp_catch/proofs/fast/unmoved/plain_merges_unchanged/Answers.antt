use Rattle.std.proofs.lemmas.Bool.{not-true}
use Rattle.camp_catch.proofs.Words.{refl}
use Rattle.camp_prim.proofs.Moving.{told_not}
use Rattle.camp_catch.proofs.MergeSteps.{aside}
use Rattle.camp_catch.proofs.fast.unmoved.plain_merges_unchanged.Goals as goal

pub returns : goal.returns
returns c = λ holds.
    let told = c.in_ok-in_conflict.ensures in
    let apart = told_not _ (not-true c.in_ok-in_conflict.in_conflict holds) told.tells in
    aside c.args.a.now c.args.k.now told.seen told.sees apart _ refl (rw c.in_ok-back.ensures at (c.stays_unchanged.ensures.passes c.if-not-stays_unchanged.false)) (rw c.in_ok-back.ensures at (c.stays_unchanged.ensures.becomes c.if-not-stays_unchanged.false))
