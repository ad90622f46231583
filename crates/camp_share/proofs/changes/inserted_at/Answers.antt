use Rattle.camp_share.proofs.Words.{◌≡◌, ◌+◌, ◌<◌, ◌++◌, ◌∷◌, [], length, take, drop, ◌∙◌, ap, arith, Vec, IfOk-weaker, joined, offset, length-append}
use Rattle.camp_share.proofs.PartLemmas.{parts_fewer, length_grown, one_more, renewed_behind, inserted_between}
use Rattle.camp_share.proofs.changes.inserted_at.Goals as goal

pub len-requires : goal.len-requires
len-requires g c = let fewer = parts_fewer c.args.parts.now c.requires.parts in omega (arith, c.requires.fits)

pub returns-then-index-len-clause-items : goal.returns-then-index-len-clause-items
returns-then-index-len-clause-items g c =
    let rest = drop (offset c.args.parts.now c.behind_with_room-index.result.0 c.behind_with_room-index.result.1) (joined c.args.parts.now) in
    IfOk-weaker c.with_rest.result _ _
    (λ new is. inserted_between _ _ _ _ _ c.behind_with_room-index.ensures.same
    (is ∙ ap (λ ys. ys ++ rest) (c.in_ok-push.ensures ∙ ap (λ ys. ys ++ c.args.item ∷ []) (c.in_ok-change.ensures ∙ c.in_ok-front.ensures))))
    c.with_rest.ensures.items

pub returns-clause-items : goal.returns-clause-items
returns-clause-items g c =
    let parts = c.args.parts.now in
    let index = c.behind_with_room-index.result.0 in
    let place = c.behind_with_room-index.result.1 in
    let inside : index < length parts = omega (arith, c.behind_with_room-index.ensures.place.0) in
    let longer = length_grown parts index c.at.result.now inside c.at.ensures in
    IfOk-weaker c.with_end_of.result _ _
    (λ new is. inserted_between _ _ _ _ _ c.behind_with_room-index.ensures.same
    (renewed_behind parts index place c.at.result.now inside c.at.ensures (omega (arith, c.behind_with_room-index.ensures.place.1)) _ _ _ _ _
    (c.in_ok-items.ensures ∙ ap (λ (p : Vec _ _). take place p.items) c.deref.ensures) c.in_ok-push-2.ensures.items is))
    c.with_end_of.ensures.items

pub with_end_of-requires-clause-within : goal.with_end_of-requires-clause-within
with_end_of-requires-clause-within g c = omega (arith, c.behind_with_room-index.ensures.place.0)

pub with_end_of-requires-clause-some : goal.with_end_of-requires-clause-some
with_end_of-requires-clause-some g c = omega (arith, ap length c.in_ok-push-2.ensures.items, length-append c.in_ok-items.items.items (c.args.item ∷ []))

pub with_end_of-requires-clause-few : goal.with_end_of-requires-clause-few
with_end_of-requires-clause-few g c =
    let place = c.behind_with_room-index.result.1 in
    let longer = length_grown c.args.parts.now c.behind_with_room-index.result.0 c.at.result.now (omega (arith, c.behind_with_room-index.ensures.place.0)) c.at.ensures in
    let more : length c.push-2.new.self.items ≡ place + 1 = one_more c.at.result.now.items _ _ c.args.item _ (omega (arith, c.behind_with_room-index.ensures.place.1)) (c.in_ok-items.ensures ∙ ap (λ (p : Vec _ _). take place p.items) c.deref.ensures) c.in_ok-push-2.ensures.items in
    omega (arith, more)
