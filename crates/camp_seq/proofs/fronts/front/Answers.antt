use Rattle.camp_seq.proofs.Words.{◌∷◌, refl, sym, ◌∙◌, subst, Fronts}
use Rattle.camp_seq.proofs.fronts.front.Goals as goal

pub returns-then-not-move_to_front : goal.returns-then-not-move_to_front
returns-then-not-move_to_front c = record {
  exact = λ any f.
      c.if-not-move_to_front.ensures.exact.0 (any.0 ∷ any.1) (any.0, any.1, subst (λ s. Fronts c.args.label.now s any.0 any.1) (sym (c.deref_mut.ensures.value ∙ c.rest.view_is ∙ c.in_ok-rest.ensures.exact)) f, refl);
  memory = tt;
}
