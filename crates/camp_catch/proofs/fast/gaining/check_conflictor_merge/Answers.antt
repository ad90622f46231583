use Rattle.camp_prim.proofs.Moving.{told_not}
use Rattle.camp_catch.proofs.Gains.{each_gains, none_gains}
use Rattle.camp_catch.proofs.fast.gaining.check_conflictor_merge.Goals as goal

pub returns-then-not-in_conflict : goal.returns-then-not-in_conflict
returns-then-not-in_conflict c =
    let none = c.has_no_effect.ensures.0 c.if-not-has_no_effect.false in
    let also = c.has_no_effect-2.ensures.0 c.if-not-has_no_effect-2.false in
    none_gains c.args.j.now c.args.k.now none also (told_not _ c.if-not-in_conflict.true c.in_ok-in_conflict.ensures.exact)

pub returns : goal.returns
returns c =
    let none = c.has_no_effect.ensures.0 c.if-not-has_no_effect.false in
    let also = c.has_no_effect-2.ensures.0 c.if-not-has_no_effect-2.false in
    each_gains c.args.j.now c.args.k.now none also (c.in_ok-in_conflict.ensures.exact.0 c.if-not-in_conflict.false) c.in_ok-first.first c.in_ok-second.second c.in_ok-first.ensures.exact c.in_ok-second.ensures.exact
