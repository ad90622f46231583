use Rattle.camp_catch.proofs.Words.{inverse_of, row_passes}
use Rattle.camp_catch.proofs.MergeSteps.{beside_from}
use Rattle.camp_catch.proofs.merging.plain_beside_conflictor.Goals as goal

pub returns-in_default : goal.returns-in_default
returns-in_default c =
    record { exact = λ pair w. (rw (c.in_ok-inverse.ensures, c.in_default.is) at c.in_ok-merged.ensures.exact) (w.merged, inverse_of w.a') (row_passes c.args.a.now c.args.k.now.effect w.merged w.a' w.merge) }

pub returns : goal.returns
returns c =
    record { exact = beside_from c.args.a.now c.args.k.now _ c.requires.1 c.requires.2 _ _ _ _ c.invert.ensures.exact (rw (c.in_ok-inverse.ensures, c.in-Some.is) at c.in_ok-merged.ensures.exact) c.in_ok-moved.ensures }
