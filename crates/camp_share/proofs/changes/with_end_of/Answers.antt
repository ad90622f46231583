use Rattle.camp_share.proofs.Words.{sym, ap, subst, ◌∙◌, arith, Vec, take, All, All-append, All-drop, All-take, joined, IsPart, common_steps, ◌≡◌, length}
use Rattle.camp_share.proofs.PartLemmas.{parts_fewer, length_grown, joined_between, pushed_behind}
use Rattle.camp_share.proofs.changes.with_end_of.Goals as goal

pub overflow_add-index : goal.overflow_add-index
overflow_add-index g c = let fewer = parts_fewer c.args.parts.now c.requires.parts in omega (arith, c.requires.fits)

pub returns-clause-items : goal.returns-clause-items
returns-clause-items g c =
    let longer = length_grown c.args.parts.now c.args.index c.at-part.result.now c.requires.within c.at-part.ensures in
    joined_between c.args.parts.now _ _ c.push_rest.new.self c.args.index _ _ c.in_ok-new.ensures c.in_ok-push_as_parts.ensures.items c.in_ok-push_rest.ensures
    ∙ pushed_behind c.args.parts.now c.args.index c.args.place c.at-part.result.now c.requires.within c.at-part.ensures (omega (arith, c.requires.place.1)) (joined (take c.args.index c.args.parts.now)) c.args.items.items _ _ c.in_ok-append_copies.ensures.joined
    (c.deref-2.ensures.value ∙ ap (λ (p : Vec _ _). p.items) c.deref.ensures)

pub returns-clause-parts : goal.returns-clause-parts
returns-clause-parts g c =
    subst (All IsPart) (sym c.in_ok-push_rest.ensures) (All-append IsPart _ _ c.in_ok-push_as_parts.ensures.parts (All-drop IsPart _ _ c.requires.parts))

pub offset_bounds-deref-place : goal.offset_bounds-deref-place
offset_bounds-deref-place g c =
    let longer = length_grown c.args.parts.now c.args.index c.at-part.result.now c.requires.within c.at-part.ensures in
    let size : length c.deref-2.result.now ≡ length c.at-part.result.now.items = ap length (c.deref-2.ensures.value ∙ ap (λ (p : Vec _ _). p.items) c.deref.ensures) in omega (arith, c.requires.place.1)

pub slice_bounds-append_copies-count : goal.slice_bounds-append_copies-count
slice_bounds-append_copies-count g c =
    let longer = length_grown c.args.parts.now c.args.index c.at-part.result.now c.requires.within c.at-part.ensures in
    let size : length c.deref-2.result.now ≡ length c.at-part.result.now.items = ap length (c.deref-2.ensures.value ∙ ap (λ (p : Vec _ _). p.items) c.deref.ensures) in omega (arith, c.requires.place.1)

pub slice_bounds-append_copies-start : goal.slice_bounds-append_copies-start
slice_bounds-append_copies-start g c =
    let longer = length_grown c.args.parts.now c.args.index c.at-part.result.now c.requires.within c.at-part.ensures in
    let size : length c.deref-2.result.now ≡ length c.at-part.result.now.items = ap length (c.deref-2.ensures.value ∙ ap (λ (p : Vec _ _). p.items) c.deref.ensures) in omega (arith, c.requires.place.1)

pub push_as_parts-requires-clause-parts : goal.push_as_parts-requires-clause-parts
push_as_parts-requires-clause-parts g c κs = subst (All IsPart) (sym c.in_ok-new.ensures) (All-take IsPart _ _ c.requires.parts) κs

pub push_as_parts-requires-clause-some : goal.push_as_parts-requires-clause-some
push_as_parts-requires-clause-some g c = grind (arith, common_steps)

pub push_as_parts-requires-clause-few : goal.push_as_parts-requires-clause-few
push_as_parts-requires-clause-few g c = grind (arith, common_steps)
