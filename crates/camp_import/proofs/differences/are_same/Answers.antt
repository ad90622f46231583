use Rattle.std.proofs.Common.{refl}
use Rattle.std.proofs.lemmas.Bool.Decides.{Decides-eqb}
use Rattle.std.proofs.lemmas.Slice.Eq.{slice_eq-Decides}
use Rattle.camp_import.proofs.differences.are_same.Goals as goal

pub returns : goal.returns
returns c =
    slice_eq-Decides (λ line other. slice_eq-Decides Decides-eqb line other _ refl) c.args.lines.now c.args.other.now _ c.eq.ensures
