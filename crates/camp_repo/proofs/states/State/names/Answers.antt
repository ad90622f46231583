use Rattle.camp_repo.proofs.Words.{◌≡◌, map, ap, ◌∙◌, sym, subst, firsts-zip}
use Rattle.camp_repo.proofs.states.State.names.Goals as goal

pub returns : goal.returns
returns c =
    let inside = c.self.inside in
    let names = c.as_slice.ensures.keys ∙ ap (λ s. s.keys) c.deref.ensures in
    record { exact = subst (λ s. c.as_slice.result.now ≡ map (λ branch. branch.0) s.branches) c.self.view_is (names ∙ sym (firsts-zip inside.names.keys inside.branches (sym c.self.invariant.as_many))) }
