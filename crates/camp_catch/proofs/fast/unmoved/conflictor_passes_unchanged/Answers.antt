use Rattle.camp_catch.proofs.Words.{[], refl, subst, ◌∷◌, inverse_of-inverse_of, inverse_of, PassesAll}
use Rattle.camp_catch.proofs.CommuteSteps.{comes_before_from}
use Rattle.camp_catch.proofs.fast.unmoved.conflictor_passes_unchanged.Goals as goal

pub returns : goal.returns
returns c = λ yes.
    let b = c.args.b.now in
    let r = c.args.j.now.effect in
    let behind = rw c.in_ok-back.ensures at (c.stays_unchanged.ensures.passes yes) in
    let passes = subst (λ p. PassesAll r (p ∷ []) (p ∷ []) r) (inverse_of-inverse_of b) (comes_before_from (inverse_of b) r r (inverse_of b) behind) in
    record { b' = b; left = r; passes = passes; moved = _; becomes = rw c.in_ok-back.ensures at (c.stays_unchanged.ensures.passed yes); second = refl; first = refl }
