use Rattle.camp_base.proofs.Words.{◌≡◌, ℕ, ◌<◌, List, [], ◌∷◌, length, sym, refl, ◌∙◌, arith, length-drop, nat_cmp, Greater, slice_cmp}
use Rattle.camp_base.proofs.bytes.order.Goals as goal

-- a list is above the empty one
longer : (xs ys : List ℕ) → 0 < length xs → length ys ≡ 0 → slice_cmp nat_cmp xs ys ≡ Greater
longer [] ys some none = absurd (omega arith)
longer (x ∷ xs) [] some none = refl
longer (x ∷ xs) (y ∷ ys) some none = absurd (omega arith)

pub returns-in-None : goal.returns-in-None
returns-in-None c =
    let left = length-drop c.loop-byte.byte-index c.args.bytes.now in
    sym (longer _ _ (omega arith) c.in-None.ensures.steps.0) ∙ c.loop-byte.invariant
