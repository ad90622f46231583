use Rattle.std.proofs.Common.{inl, inr, sym, ◌∙◌}
use Rattle.camp_catch.proofs.CommuteSteps.{found_as, has_several, plain_dissolves, plain_leaves, plain_passes}
use Rattle.camp_catch.proofs.commuting.plain_before_conflictor.Goals as goal

pub returns-in-None : goal.returns-in-None
returns-in-None c =
    found_as c.plain_past_conflictor.result (λ k' j' w. inl w) (plain_passes c.args.a.now c.args.k.now (rw (c.key.ensures.exact, c.label.ensures.exact) at c.in-None.ensures.exact)) c.plain_past_conflictor.ensures

pub returns-in-Some : goal.returns-in-Some
returns-in-Some c =
    let member = rw (c.key.ensures.exact, c.label.ensures.exact) at c.in-Some.ensures.exact in
    found_as c.conflict_dissolves.result (λ k' j' w. inr (inl w)) (plain_dissolves c.args.a.now c.args.k.now _ member (sym c.len.ensures.value ∙ c.if-len-eq1.true)) c.conflict_dissolves.ensures

pub plain_leaves_the_set-requires-clause-named : goal.plain_leaves_the_set-requires-clause-named
plain_leaves_the_set-requires-clause-named c =
    let member = rw (c.key.ensures.exact, c.label.ensures.exact) at c.in-Some.ensures.exact in
    sym (c.len.ensures.keyed _ _ member)

pub plain_leaves_the_set-requires-clause-several : goal.plain_leaves_the_set-requires-clause-several
plain_leaves_the_set-requires-clause-several c =
    let member = rw (c.key.ensures.exact, c.label.ensures.exact) at c.in-Some-2.ensures.exact in
    has_several c.args.k.now.conflicts _ _ member (rw c.len.ensures.value at c.if-len-eq1.false)

pub returns-in-Some-2 : goal.returns-in-Some-2
returns-in-Some-2 c =
    let member = rw (c.key.ensures.exact, c.label.ensures.exact) at c.in-Some-2.ensures.exact in
    let several = has_several c.args.k.now.conflicts _ _ member (rw c.len.ensures.value at c.if-len-eq1.false) in
    found_as c.plain_leaves_the_set.result (λ k' j' w. inr (inr w)) (plain_leaves c.args.a.now c.args.k.now _ member several) c.plain_leaves_the_set.ensures
