use Rattle.camp_seq.proofs.Words.{◌∷◌, drop, label_of, Norm}
use Rattle.camp_seq.specs.Inside.FirstInOrder.{NoneLessCanPass}
use Rattle.camp_seq.proofs.fast.looks.stays_first.Given as goal

abbrev pub invariant-loop-at : goal.invariant-loop-at
invariant-loop-at l = NoneLessCanPass (label_of l.x) (label_of l.greatest) l.last (drop l.at l.s) → Norm (l.x ∷ l.s) (l.x ∷ l.s)
