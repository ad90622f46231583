use Rattle.camp_prim.proofs.Words.{slice_eq-Decides, bytes_eq-Decides}
use Rattle.camp_prim.proofs.hunks.are_same.Goals as goal

pub returns : goal.returns
returns c = slice_eq-Decides bytes_eq-Decides _ _ _ c.eq.ensures
