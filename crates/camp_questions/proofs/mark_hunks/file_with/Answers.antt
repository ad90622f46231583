use Rattle.camp_questions.proofs.Words.{◌-◌, ◌∙◌, ap, arith, drop, get_or, length-drop, refl, take_all, file_from, Range}
use Rattle.camp_questions.proofs.PlaceSteps.{all_places, behind_places, file_of, one_more_place}
use Rattle.camp_questions.proofs.mark_hunks.file_with.Goals as goal

pub loop-place-init : goal.loop-place-init
loop-place-init c =
    ap (λ l. behind_places l (file_from c.args.lines.now c.args.versions.now 0 c.args.found.now)) c.in_ok-places.ensures.items

pub loop-place-preserved : goal.loop-place-preserved
loop-place-preserved c =
    let none : Range = record { from = 0; to = 0 } in
    one_more_place c.args.lines.now c.args.versions.now c.args.found.now c.loop-place.place-index (get_or c.args.found.now c.loop-place.place-index none) none c.loop-place.at c.loop-place.places.items c.push.new.self.items c.in_ok-next.next _ (omega arith) refl c.in_ok-next.ensures c.in_ok-push.ensures.items c.loop-place.invariant

pub returns : goal.returns
returns c =
    let behind = drop c.loop-place.at c.args.lines.now in
    let rest = c.in_ok-rest.ensures ∙ take_all (c.len.result - c.loop-place.at) behind (omega (arith, c.len.ensures.exact, length-drop c.loop-place.at c.args.lines.now)) in
    ap (file_of c.loop-place.places.items) rest ∙ all_places c.args.lines.now c.args.versions.now c.args.found.now c.loop-place.place-index c.loop-place.at c.loop-place.places.items _ (omega arith) c.loop-place.invariant
