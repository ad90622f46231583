use Rattle.camp_share.proofs.Words.{◌≡◌, ◌∙◌, ◌+◌, length, take, ap, arith, refl, Vec, IfOk-weaker, ◌∷◌, [], length-append}
use Rattle.camp_share.proofs.PartLemmas.{front_within, length_grown, one_more, place_within, renewed_behind, replaced_between}
use Rattle.camp_share.proofs.changes.replaced_at.Goals as goal

pub overflow_add-place : goal.overflow_add-place
overflow_add-place g c = let within = front_within c.args.parts.now (c.args.index + 1) in omega (arith, c.requires.place.1, c.requires.fits)

pub with_end_of-requires-clause-within : goal.with_end_of-requires-clause-within
with_end_of-requires-clause-within g c = place_within c.args.parts.now c.args.index (c.args.place + 1) c.requires.place.1 (omega arith)

pub with_end_of-requires-clause-some : goal.with_end_of-requires-clause-some
with_end_of-requires-clause-some g c = omega (arith, ap length c.in_ok-push.ensures.items, length-append c.in_ok-items.items.items (c.args.item ∷ []))

pub with_end_of-requires-clause-few : goal.with_end_of-requires-clause-few
with_end_of-requires-clause-few g c =
    let inside = place_within c.args.parts.now c.args.index (c.args.place + 1) c.requires.place.1 (omega arith) in
    let longer = length_grown c.args.parts.now c.args.index c.at.result.now inside c.at.ensures in
    let more : length c.push.new.self.items ≡ c.args.place + 1 = one_more c.at.result.now.items _ _ c.args.item _ (omega (arith, c.requires.place.1)) (c.in_ok-items.ensures ∙ ap (λ (p : Vec _ _). take c.args.place p.items) c.deref.ensures) c.in_ok-push.ensures.items in
    omega (arith, more)

pub returns-clause-items : goal.returns-clause-items
returns-clause-items g c =
    let parts = c.args.parts.now in
    let inside = place_within parts c.args.index (c.args.place + 1) c.requires.place.1 (omega arith) in
    let longer = length_grown parts c.args.index c.at.result.now inside c.at.ensures in
    let within = front_within parts (c.args.index + 1) in
    IfOk-weaker c.with_end_of.result _ _
    (λ new is. replaced_between _ _ _ _ _ _ _ (omega (arith, c.requires.place.1)) refl refl (omega arith)
    (renewed_behind parts c.args.index c.args.place c.at.result.now inside c.at.ensures (omega (arith, c.requires.place.1)) _ _ _ _ _
    (c.in_ok-items.ensures ∙ ap (λ (p : Vec _ _). take c.args.place p.items) c.deref.ensures) c.in_ok-push.ensures.items is))
    c.with_end_of.ensures.items
