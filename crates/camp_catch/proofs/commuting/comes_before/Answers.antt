use Rattle.std.proofs.Common.{[], ap, length, sym, ◌∙◌, ◌∷◌}
use Rattle.camp_catch.proofs.CommuteSteps.{length-passes_all}
use Rattle.camp_catch.proofs.commuting.comes_before.Goals as goal

pub returns-in_default : goal.returns-in_default
returns-in_default c = λ pair. (rw (c.in_ok-single.ensures, c.in_default.is) at c.in_ok-before.ensures.exact) (pair.0 ∷ [], pair.1)

pub first_of-requires : goal.first_of-requires
first_of-requires c =
    ap length c.items.ensures.exact ∙ length-passes_all c.args.r.now (c.args.b.now ∷ []) _ _ (rw (c.in_ok-single.ensures, c.in-Some.is) at c.in_ok-before.ensures.exact)

pub returns : goal.returns
returns c = rw (c.in_ok-single.ensures, c.in-Some.is, sym c.items.ensures.exact ∙ c.in_ok-first.ensures) at c.in_ok-before.ensures.exact
