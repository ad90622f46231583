use Rattle.camp_share.proofs.Words.{find, sym, ap, ◌∙◌}
use Rattle.camp_share.specs.Inside.EntryFields.{entries_of}
use Rattle.camp_share.proofs.MapLemmas.{get_is}
use Rattle.camp_share.proofs.maps.SharedMap.get.Goals as goal

pub returns-in-OnePart : goal.returns-in-OnePart
returns-in-OnePart g c = record {
  exact =
      c.value_in_part.ensures ∙ ap (find g.K.Ord.cmp c.args.key.now) (c.items.ensures ∙ ap entries_of (sym c.in-OnePart.is))
      ∙ sym (get_is _ g.met.K.Ord.total _ _ c.self.view_is c.self.invariant.0 c.args.key.now);
}

pub returns-in-Parts : goal.returns-in-Parts
returns-in-Parts g c = record {
  exact =
      c.value_in_parts.ensures ∙ ap (find g.K.Ord.cmp c.args.key.now) (ap entries_of (sym c.in-Parts.is))
      ∙ sym (get_is _ g.met.K.Ord.total _ _ c.self.view_is c.self.invariant.0 c.args.key.now);
}
