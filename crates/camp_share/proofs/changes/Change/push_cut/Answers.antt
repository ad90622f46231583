use Rattle.camp_share.proofs.Words.{◌++◌, drop, Vec, ap, ◌∙◌, arith, IfOk-weaker, joined, offset}
use Rattle.camp_share.proofs.PartLemmas.{parts_fewer, place_within, behind_part, pushed_behind, length_grown}
use Rattle.camp_share.proofs.changes.Change.push_cut.Goals as goal

pub returns-then-place-eq0-clause-items : goal.returns-then-place-eq0-clause-items
returns-then-place-eq0-clause-items g c =
    IfOk-weaker c.push_small.result _ _ (λ rest is. is ∙ ap (λ xs. c.args.self.now ++ xs) (behind_part c.args.parts.now c.args.index c.args.place (omega arith))) c.push_small.ensures.items

pub overflow_add-index : goal.overflow_add-index
overflow_add-index g c =
    let within = place_within c.args.parts.now c.args.index c.args.place c.requires.place.1 (omega arith) in
    let fewer = parts_fewer c.args.parts.now c.requires.parts in omega (arith, c.requires.fits)

pub push_small-requires-2-clause-within : goal.push_small-requires-2-clause-within
push_small-requires-2-clause-within g c =
    let within = place_within c.args.parts.now c.args.index c.args.place c.requires.place.1 (omega arith) in omega (arith, within)

pub returns-clause-items : goal.returns-clause-items
returns-clause-items g c =
    let within = place_within c.args.parts.now c.args.index c.args.place c.requires.place.1 (omega arith) in
    let longer = length_grown c.args.parts.now c.args.index c.at-part.result.now within c.at-part.ensures in
    IfOk-weaker c.push_small-2.result _ _
    (λ rest is. is
    ∙ pushed_behind c.args.parts.now c.args.index c.args.place c.at-part.result.now within c.at-part.ensures (omega (arith, c.requires.place.1)) (joined c.self.inside.parts) c.self.inside.middle _ _ c.in_ok-push_items.ensures
    (c.deref-2.ensures.value ∙ ap (λ (p : Vec _ _). p.items) c.deref.ensures)
    ∙ ap (λ xs. xs ++ drop (offset c.args.parts.now c.args.index c.args.place) (joined c.args.parts.now)) c.self.view_is)
    c.push_small-2.ensures.items
