use Rattle.std.proofs.Common.{refl, sym, ◌∙◌}
use Rattle.std.proofs.lemmas.Bool.Decides.{Decides-eqb}
use Rattle.std.proofs.lemmas.Slice.Eq.{slice_eq-Decides}
use Rattle.camp_call.proofs.names.Names.is_same.Goals as goal

pub returns : goal.returns
returns c =
    let same = slice_eq-Decides (λ name other. slice_eq-Decides Decides-eqb name other _ refl) c.as_slice.result.now c.as_slice-2.result.now _ c.eq.ensures in
    record {
      exact = (
        λ yes. sym c.as_slice.ensures.exact ∙ same.0 yes ∙ c.as_slice-2.ensures.exact,
        λ is. same.1 (c.as_slice.ensures.exact ∙ is ∙ sym c.as_slice-2.ensures.exact),
      );
    }
