use Rattle.camp_share.proofs.Words.{◌++◌, take, ap, ◌∙◌, arith, IfOk-weaker, joined}
use Rattle.camp_share.proofs.PartLemmas.{before_part, before_place, place_within, length_grown}
use Rattle.camp_share.proofs.changes.front_of.Goals as goal

pub returns-then-place-eq0 : goal.returns-then-place-eq0
returns-then-place-eq0 g c = before_part c.args.parts.now c.args.index c.args.place (omega arith) _ c.new.ensures

pub returns : goal.returns
returns g c =
    let within = place_within c.args.parts.now c.args.index c.args.place c.requires.place.1 (omega arith) in
    let longer = length_grown c.args.parts.now c.args.index c.at.result.now within c.at.ensures in
    IfOk-weaker c.of_part.result _ _
    (λ front is. ap (λ xs. joined (take c.args.index c.args.parts.now) ++ xs) is
    ∙ before_place c.args.parts.now c.args.index c.args.place c.at.result.now within c.at.ensures (omega (arith, c.requires.place.1)))
    c.of_part.ensures
