use Rattle.camp_share.proofs.Words.{T, find, Vec, refl, sym, ap, subst, ◌∙◌, is_sorted}
use Rattle.std.specs.Option.{option_copied}
use Rattle.camp_share.proofs.Entries.{absent}
use Rattle.camp_share.proofs.Lookups.{behind_all, entries_sorted, value_is}
use Rattle.camp_share.proofs.maps.value_in_parts.Goals as goal

pub returns-in_err-part : goal.returns-in_err-part
returns-in_err-part g c =
    let sorted = subst (λ es. T (is_sorted g.K.Ord.cmp es)) (sym c.parts.ensures.items) c.requires in
    ap option_copied c.from_residual.ensures
    ∙ sym (absent _ g.met.K.Ord.total _ c.args.key.now _ (behind_all _ g.met.K.Ord.total c.parts.result.now sorted c.args.key.now _ (option_copied c.part_for.result.2) _ c.part_for.ensures refl (ap option_copied c.in_err-part.was)).1 sorted)
    ∙ ap (find g.K.Ord.cmp c.args.key.now) c.parts.ensures.items

pub value_in_part-requires : goal.value_in_part-requires
value_in_part-requires g c =
    let sorted = subst (λ es. T (is_sorted g.K.Ord.cmp es)) (sym c.parts.ensures.items) c.requires in
    entries_sorted _ g.met.K.Ord.total c.parts.result.now sorted c.args.key.now _ (option_copied c.part_for.result.2) _ c.part_for.ensures refl _ (ap option_copied c.in_ok-part.was) _ (c.deref-in_ok-part.ensures.value ∙ ap (λ (p : Vec _ _). p.items) c.deref.ensures)

pub returns : goal.returns
returns g c =
    let sorted = subst (λ es. T (is_sorted g.K.Ord.cmp es)) (sym c.parts.ensures.items) c.requires in
    c.value_in_part.ensures
    ∙ value_is _ g.met.K.Ord.total c.parts.result.now sorted c.args.key.now _ (option_copied c.part_for.result.2) _ c.part_for.ensures refl _ (ap option_copied c.in_ok-part.was) _ (c.deref-in_ok-part.ensures.value ∙ ap (λ (p : Vec _ _). p.items) c.deref.ensures)
    ∙ ap (find g.K.Ord.cmp c.args.key.now) c.parts.ensures.items
