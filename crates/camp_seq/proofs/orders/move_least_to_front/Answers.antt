use Rattle.camp_seq.proofs.Words.{◌<◌, ◌∷◌, Some, refl, sym, ◌∙◌, subst, MovesLeastToFront, untried, Fronts}
use Rattle.camp_seq.proofs.LabelSteps.{settles_from, above_least, untried_less}
use Rattle.camp_seq.proofs.orders.move_least_to_front.Goals as goal

pub returns-then-move_to_front : goal.returns-then-move_to_front
returns-then-move_to_front c =
    let f = c.if-move_to_front.ensures.exact in
    subst (λ x. MovesLeastToFront x c.move_to_front.new.items) c.loop-label.invariant.as_was (settles_from c.loop-label.tried c.least_above-label.result c.loop-label.items f.0 f.1 c.move_to_front.new.items c.least_above-label.ensures c.loop-label.invariant.above f.2 f.3)

pub loop-label-smaller : goal.loop-label-smaller
loop-label-smaller c =
    let tried = c.loop-label.tried in
    let label = c.least_above-label.result in
    let least = c.least_above-label.ensures in
    subst (λ x. untried (Some label) x < untried tried c.loop-label.items) (sym c.if-move_to_front.ensures.exact.1) (untried_less tried label c.loop-label.items least.above least.held)

pub loop-label-preserved : goal.loop-label-preserved
loop-label-preserved c =
    let f = c.if-move_to_front.ensures.exact in
    record {
      as_was = f.1 ∙ c.loop-label.invariant.as_was;
      above = λ other y t w.
          let front = subst (λ x. Fronts other x y t) f.1 w in
          above_least c.loop-label.tried c.least_above-label.result c.loop-label.items c.least_above-label.ensures (λ z u g. f.0 (z ∷ u) (z, u, g, refl)) other y t front (c.loop-label.invariant.above other y t front);
    }
