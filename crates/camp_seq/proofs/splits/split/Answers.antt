use Rattle.camp_seq.proofs.Words.{length, ◌++◌, refl, sym, ◌∙◌, subst, Parts}
use Rattle.camp_seq.proofs.splits.split.Goals as goal

pub returns-in_default : goal.returns-in_default
returns-in_default c = record {
  exact = λ any m.
      c.in_default.ensures.exact (length m.named, m.named ++ m.others) (m.named, m.others, subst (λ s. Parts c.args.labels.now s m.named m.others) (sym (c.deref_mut.ensures.value ∙ c.named.view_is ∙ c.in_ok-named.ensures.exact)) m.parts, refl, refl);
}
