use Rattle.camp_ctx.proofs.Words.{◌∙◌, ap, refl, sym, opposite}
use Rattle.camp_ctx.proofs.AddSteps.{none_behind_inverse, not_inverse, is_inverse}
use Rattle.camp_ctx.proofs.CommonLabels.{none_fronts}
use Rattle.camp_ctx.proofs.adding.without_inverse.Goals as goal

pub returns-then-not-has_label : goal.returns-then-not-has_label
returns-then-not-has_label c =
    let no = sym c.has_label.ensures ∙ c.if-not-has_label.true in
    record { exact = none_behind_inverse c.args.a.now c.args.s.now _ _ (c.opposite-label.ensures.exact ∙ ap opposite c.label.ensures.exact) c.items.ensures.exact (λ pair. none_fronts _ _ no pair.0 pair.1) }

pub returns-in_default : goal.returns-in_default
returns-in_default c =
    let never = rw c.in_default.is at c.in_ok-first.ensures.exact in
    record { exact = none_behind_inverse c.args.a.now c.args.s.now _ _ (c.opposite-label.ensures.exact ∙ ap opposite c.label.ensures.exact) refl never }

pub returns-then-not-is_same : goal.returns-then-not-is_same
returns-then-not-is_same c =
    let front = rw c.in-Some.is at c.in_ok-first.ensures.exact in
    let no = c.if-not-is_same.true in
    record { exact = not_inverse c.args.a.now c.args.s.now _ _ _ (c.opposite-label.ensures.exact ∙ ap opposite c.label.ensures.exact) front (λ same. let yes = c.is_same.ensures.exact.1 (c.invert.ensures.exact ∙ same) in cc) }

pub returns : goal.returns
returns c =
    let front = rw c.in-Some.is at c.in_ok-first.ensures.exact in
    record { exact = is_inverse c.args.a.now c.args.s.now _ _ _ (c.opposite-label.ensures.exact ∙ ap opposite c.label.ensures.exact) front (sym c.invert.ensures.exact ∙ c.is_same.ensures.exact.0 c.if-not-is_same.false) }
