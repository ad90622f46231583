use Rattle.std.proofs.Common.{inl, inr, sym, ◌∙◌}
use Rattle.camp_catch.proofs.CommuteSteps.{are_apart, found_as, has_several, one_of_several, only_goes}
use Rattle.camp_catch.proofs.conflictors.commute_conflictors.Goals as goal

pub two_conflictors_apart-requires : goal.two_conflictors_apart-requires
two_conflictors_apart-requires c = rw c.key.ensures.exact at c.in-None.ensures.exact

pub returns-in-None : goal.returns-in-None
returns-in-None c =
    found_as c.two_conflictors_apart.result (λ k' j' w. inl w) (are_apart c.args.j.now c.args.k.now (rw c.key.ensures.exact at c.in-None.ensures.exact)) c.two_conflictors_apart.ensures

pub returns-in-Some : goal.returns-in-Some
returns-in-Some c =
    let member = rw c.key.ensures.exact at c.in-Some.ensures.exact in
    found_as c.only_conflict_goes.result (λ k' j' w. inr (inl w)) (only_goes c.args.j.now c.args.k.now _ member (sym c.len.ensures.value ∙ c.if-len-eq1.true)) c.only_conflict_goes.ensures

pub one_of_several_conflicts-requires-clause-member : goal.one_of_several_conflicts-requires-clause-member
one_of_several_conflicts-requires-clause-member c = (_, rw c.key.ensures.exact at c.in-Some-2.ensures.exact)

pub one_of_several_conflicts-requires-clause-several : goal.one_of_several_conflicts-requires-clause-several
one_of_several_conflicts-requires-clause-several c =
    let member = rw c.key.ensures.exact at c.in-Some-2.ensures.exact in
    has_several c.args.k.now.conflicts _ _ member (rw c.len.ensures.value at c.if-len-eq1.false)

pub returns-in-Some-2 : goal.returns-in-Some-2
returns-in-Some-2 c =
    let member = rw c.key.ensures.exact at c.in-Some-2.ensures.exact in
    let several = has_several c.args.k.now.conflicts _ _ member (rw c.len.ensures.value at c.if-len-eq1.false) in
    found_as c.one_of_several_conflicts.result (λ k' j' w. inr (inr w)) (one_of_several c.args.j.now c.args.k.now _ member several) c.one_of_several_conflicts.ensures
