use Rattle.std.proofs.Common.{◌≡◌, IfOk, subst}
use Rattle.camp_catch.proofs.ValueSteps.{first_member}
use Rattle.camp_catch.proofs.values.alone.Goals as goal

pub returns : goal.returns
returns c =
    subst (λ s. IfOk c.insert-2.result (λ set. set ≡ s)) (first_member _ c.args.x.now c.empty.ensures.exact) c.insert-2.ensures.exact
