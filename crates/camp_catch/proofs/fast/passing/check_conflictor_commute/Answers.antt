use Rattle.camp_catch.proofs.NoEffect.{passes_aside}
use Rattle.camp_catch.proofs.fast.passing.check_conflictor_commute.Goals as goal

pub returns-in-None : goal.returns-in-None
returns-in-None c =
    let none = c.has_no_effect.ensures.0 c.if-not-has_no_effect.false in
    let also = c.has_no_effect-2.ensures.0 c.if-not-has_no_effect-2.false in
    let unseen = (rw (c.items.ensures.exact, c.context.ensures.exact, c.key-key.ensures.exact) at c.lacks_key.ensures).0 c.if-lacks_key.true in
    passes_aside c.args.j.now c.args.k.now none also (rw c.key-key.ensures.exact at c.in-None.ensures.exact) unseen

pub check_commute_leaving-requires-clause-first : goal.check_commute_leaving-requires-clause-first
check_commute_leaving-requires-clause-first c = c.has_no_effect.ensures.0 c.if-not-has_no_effect.false

pub check_commute_leaving-requires-clause-second : goal.check_commute_leaving-requires-clause-second
check_commute_leaving-requires-clause-second c = c.has_no_effect-2.ensures.0 c.if-not-has_no_effect-2.false

pub check_commute_leaving-requires-clause-member : goal.check_commute_leaving-requires-clause-member
check_commute_leaving-requires-clause-member c = (_, rw c.key-key.ensures.exact at c.in-Some.ensures.exact)
