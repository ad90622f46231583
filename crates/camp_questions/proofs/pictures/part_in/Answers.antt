use Rattle.camp_questions.proofs.Words.{◌≡◌, arith, length, subst}
use Rattle.std.specs.Option.{IfSome}
use Rattle.camp_questions.proofs.PartsOfOne.{part_alone}
use Rattle.camp_questions.specs.Inside.PartsOfOne.{IsPartOfOne}
use Rattle.camp_questions.proofs.pictures.part_in.Goals as goal

pub returns-in-Some : goal.returns-in-Some
returns-in-Some c =
    let one : length c.args.names.now ≡ 1 = omega arith in
    let part : IsPartOfOne c.args.branch.now c.index-names-0.result c.in-Some.part = subst (λ found. IfSome found (IsPartOfOne c.args.branch.now c.index-names-0.result)) c.in-Some.is c.in_ok-part.ensures in
    part_alone c.args.branch.now c.args.names.now c.index-names-0.result _ c.in-Some.part one c.index-names-0.is part
