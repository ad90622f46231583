use Rattle.camp_seq.proofs.Words.{◌≡◌, ◌+◌, true, false, refl, sym, ap, ◌∙◌, subst, arith, label_of}
use Rattle.camp_seq.proofs.LabelSteps.{LeastSoFar, next_is_less, next_is_not, least_of_all}
use Rattle.camp_seq.proofs.orders.least_above.Goals as goal
use Rattle.camp_seq.proofs.orders.least_above.Goals.{then-comes_before, else-comes_before}

pub loop-p-preserved : goal.loop-p-preserved
loop-p-preserved c =
    let now = LeastSoFar c.args.tried.now c.args.items.now (c.loop-p.p-index + 1) in
    let label = c.label-label.result in
    let at = c.label-label.ensures.exact ∙ ap label_of c.p-item.is in
    elim c.if-comes_before.branch [
      | then-comes_before w ↦
          subst now (sym w.least-is) (next_is_less _ _ _ c.p-item.result label c.loop-p.least (omega arith) at (w.if-comes_before.ensures.0 refl) c.loop-p.invariant)
      | else-comes_before w ↦
          subst now (sym w.least-is) (next_is_not _ _ _ c.p-item.result label c.loop-p.least (omega arith) at (λ both. let e : false ≡ true = w.if-comes_before.ensures.1 both in cc) c.loop-p.invariant)
    ]

pub returns : goal.returns
returns c =
    least_of_all c.args.tried.now c.args.items.now c.loop-p.p-index c.loop-p.least (omega arith) c.loop-p.invariant
