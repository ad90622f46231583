use Rattle.camp_share.proofs.Words.{◌≡◌, ◌<◌, ◌+◌, ◌++◌, length, take, drop, ◌∙◌, ap, arith, Vec, joined, offset, common_steps}
use Rattle.camp_share.proofs.PartLemmas.{parts_fewer, length_grown, renewed_behind}
use Rattle.camp_share.proofs.changes.spliced_in_part.Goals as goal

pub len-requires : goal.len-requires
len-requires g c = let fewer = parts_fewer c.args.parts.now c.requires.parts in omega (arith, c.requires.fits)

pub returns-clause-items : goal.returns-clause-items
returns-clause-items g c =
    let parts = c.args.parts.now in
    let gone = c.args.gone in
    let new = c.args.new.now in
    let index = c.behind_with_room-index.result.0 in
    let place = c.behind_with_room-index.result.1 in
    let inside : index < length parts = omega (arith, c.behind_with_room-index.ensures.place.0) in
    let longer = length_grown parts index c.at-part.result.now inside c.at-part.ensures in
    let moved : offset parts index (place + gone) ≡ offset parts index place + gone = omega arith in
    renewed_behind parts index place c.at-part.result.now inside c.at-part.ensures (omega (arith, c.behind_with_room-index.ensures.place.1)) _ new _ _ _
    (c.in_ok-items.ensures ∙ ap (λ (p : Vec _ _). take place p.items) c.deref-3.ensures) c.in_ok-append_copies.ensures.joined c.in_ok-changed.ensures.items
    ∙ ap (λ n. take (offset parts index place) (joined parts) ++ new ++ drop n (joined parts)) moved
    ∙ ap (λ n. take n (joined parts) ++ new ++ drop (n + gone) (joined parts)) c.behind_with_room-index.ensures.same

pub with_end_of-requires-clause-some : goal.with_end_of-requires-clause-some
with_end_of-requires-clause-some g c = grind (arith, common_steps)

pub with_end_of-requires-clause-few : goal.with_end_of-requires-clause-few
with_end_of-requires-clause-few g c = grind (arith, common_steps)

pub with_end_of-requires-clause-within : goal.with_end_of-requires-clause-within
with_end_of-requires-clause-within g c = omega (arith, c.behind_with_room-index.ensures.place.0)
