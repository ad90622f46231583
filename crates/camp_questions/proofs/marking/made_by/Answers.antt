use Rattle.camp_questions.proofs.Words.{Files, IfOk-weaker, subst, sym, AppliesAll}
use Rattle.camp_questions.proofs.SidesApply.{side_applies}
use Rattle.camp_questions.proofs.marking.made_by.Goals as goal

pub unreachable-requires : goal.unreachable-requires
unreachable-requires c =
    let applies = subst (λ t. (next : Files) × AppliesAll c.in_ok-side.side t next) (sym c.in_ok-next.ensures.exact) (side_applies c.args.tree.now c.args.seen.now c.args.name.now c.in_ok-side.side c.requires c.in_ok-side.ensures) in
    let never = rw (c.in-Err-DoesNotApply.is, c.in-Err-DoesNotApply.field-0-is) at c.apply_all.ensures.exact in
    never.0 applies.0 applies.1

pub returns : goal.returns
returns c =
    let applies = subst (λ t. AppliesAll c.in_ok-side.side t c.apply_all.new.tree) c.in_ok-next.ensures.exact c.in-Ok.ensures.exact in
    IfOk-weaker c.file_at.result _ _ (λ made is. (c.in_ok-side.side, c.apply_all.new.tree, c.in_ok-side.ensures, applies, is)) c.file_at.ensures
