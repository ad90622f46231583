use Rattle.camp_share.proofs.Words.{ap, ◌∙◌, slice_range, arith, common_steps}
use Rattle.camp_share.proofs.PartLemmas.{copied_between}
use Rattle.camp_share.proofs.part_lists.PartList.copied.Goals as goal

pub returns : goal.returns
returns g c = record {
  exact =
      copied_between _ _ _ _ _ c.args.from c.args.to _ _ c.in_ok-before.ensures c.place_of-part.ensures.exact c.in_ok-front.ensures.items c.new.ensures c.in_ok-parts.ensures.items c.place_of-part-2.ensures.exact c.requires.range
      ∙ ap (λ xs. slice_range xs c.args.from c.args.to) c.self.view_is;
}

pub invariant_of-result : goal.invariant_of-result
invariant_of-result g c = grind (arith, common_steps)
