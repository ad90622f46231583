use Rattle.camp_why.proofs.Words.{applied-from_Applies, sym, ◌∙◌}
use Rattle.camp_why.proofs.Misfitting.{none_applies}
use Rattle.camp_why.proofs.Stopping.{made_so}
use Rattle.camp_why.proofs.stops.make.Goals as goal

pub unreachable-requires : goal.unreachable-requires
unreachable-requires c =
    let free = sym c.in_ok-why.ensures.exact ∙ c.in_default.is in
    let never = rw c.in-Err-DoesNotApply.field-0-is at c.in-Err-DoesNotApply.ensures.exact in
    let (next, applies) = none_applies c.args.change.now c.args.tree.now c.path-path.ensures.in_range free in
    never.0 next applies

pub returns-clause-reports : goal.returns-clause-reports
returns-clause-reports c =
    let free = sym c.in_ok-why.ensures.exact ∙ c.in_default.is in
    made_so c.args.change.now c.args.tree.now c.apply.new.tree free c.in-Ok.ensures.exact c.path-path.result.now c.path-path.ensures.value c.long_file.result c.long_file.ensures

pub returns-clause-makes : goal.returns-clause-makes
returns-clause-makes c = λ none. applied-from_Applies c.args.change.now c.args.tree.now c.apply.new.tree c.in-Ok.ensures.exact
