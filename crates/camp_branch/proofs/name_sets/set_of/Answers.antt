use Rattle.camp_branch.proofs.Words.{ap, ◌∙◌, bytes_eq, sym, is_among}
use Rattle.std.proofs.lemmas.List.Sorted.{list_any-IsPermutation}
use Rattle.camp_branch.proofs.name_sets.set_of.Goals as goal

pub returns : goal.returns
returns c = record {
  exact = λ name.
      c.in_ok-set.ensures name ∙ ap (λ l. is_among l name) c.deref.ensures.value ∙ sym (list_any-IsPermutation (bytes_eq name) c.in_ok-sorted.sorted.items c.sort_unstable.new.self.items c.sort_unstable.ensures.permutation) ∙ ap (λ l. is_among l name) c.in_ok-sorted.ensures.items;
}
