use Rattle.camp_questions.proofs.Words.{List, ◌≡◌, ◌+◌, ◌-◌, ◌∷◌, ◌∙◌, ap, arith, drop, drop_all, drop_more, length, refl, sym, Catch}
use Rattle.camp_questions.proofs.fast.independence.stays.Goals as goal

pub loop-at-init : goal.loop-at-init
loop-at-init c =
    rw (drop_all (length c.args.going.now) c.args.going.now (omega arith)) (refl, refl)

pub loop-at-preserved : goal.loop-at-preserved
loop-at-preserved c =
    let s : List Catch = c.args.going.now in
    let i = c.loop-at.at - 1 in
    let e : c.loop-at.at ≡ i + 1 = omega arith in
    let j = c.index-going-at.result in
    let next : drop i s ≡ j ∷ drop (i + 1) s = drop_more s i j (omega arith) ∙ ap (λ x. x ∷ drop (i + 1) s) (sym c.index-going-at.is) in
    rw next (c.args.catch.now, j, drop (i + 1) s, rw e at c.loop-at.invariant, rw c.deref.ensures at (c.if-not-catches_commute_unchanged.ensures refl), refl)

pub returns : goal.returns
returns c sure =
    let e : c.loop-at.at ≡ 0 = omega arith in
    rw e at c.loop-at.invariant
