use Rattle.camp_questions.proofs.Words.{◌<◌, ◌∙◌, arith, length, sym, eqb-false}
use Rattle.camp_questions.proofs.PartsArranged.{first_stuck}
use Rattle.camp_questions.proofs.fast.independence.is_blocked.Goals as goal

pub returns : goal.returns
returns c sure name own =
    let some : 0 < length c.args.going.now = omega (arith, eqb-false (length c.args.going.now) 0 (sym c.is_empty.ensures ∙ c.if-is_empty.false)) in
    let more : 0 < length c.args.catches.now = omega (arith, eqb-false (length c.args.catches.now) 0 (sym c.is_empty-else-is_empty.ensures ∙ c.if-is_empty-2.false)) in
    first_stuck name c.args.going.now c.args.catches.now c.index-going-going.result c.index-catches-0.result c.index-going-going.result c.index-catches-0.result some more c.index-going-going.is c.index-catches-0.is own (rw (c.deref.ensures, c.deref-2.ensures) at (c.never_commute.ensures sure))
