use Rattle.camp_catch.proofs.Words.{Catch, MergeCatch, [], ◌++◌, sym, subst}
use Rattle.camp_catch.specs.Inside.InPlace.{with_gained}
use Rattle.camp_catch.proofs.CommuteSteps.{plains_stay}
use Rattle.camp_catch.proofs.fast.gaining.check_merge.Goals as goal

pub returns-in-Plain-Plain : goal.returns-in-Plain-Plain
returns-in-Plain-Plain c before beside =
    let case = c.in-Plain-Plain in
    subst (λ (x : Catch × Catch). MergeCatch (with_gained before x.0) (with_gained beside x.1) (with_gained (beside ++ []) x.1) (with_gained (before ++ []) x.0)) (λ i. (sym case.is-0 i, sym case.is-1 i))
    (plains_stay case.a case.b (c.commutes_unchanged.ensures.exact.0 c.if-commutes_unchanged.true))
