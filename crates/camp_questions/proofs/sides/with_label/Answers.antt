use Rattle.camp_questions.proofs.Words.{IfOk-weaker, ap, ◌∙◌, subst, sym, get, AddsAll, is_some}
use Rattle.camp_questions.proofs.SeenLabels.{label_comes, label_kept}
use Rattle.camp_questions.proofs.sides.with_label.Goals as goal

pub returns-then-is_seen : goal.returns-then-is_seen
returns-then-is_seen c =
    label_kept c.args.undone.now c.args.x.now c.args.seen (ap (λ k. is_some (get c.args.seen k)) (sym c.key.ensures.exact) ∙ sym c.is_seen.ensures ∙ c.if-is_seen.true)

pub returns : goal.returns
returns c =
    let added = subst (λ u. AddsAll u c.args.x.now c.in_ok-added.added) c.items.ensures.exact c.in_ok-added.ensures in
    let free = ap (λ k. is_some (get c.args.seen k)) (sym c.key.ensures.exact) ∙ sym c.is_seen.ensures ∙ c.if-is_seen.false in
    IfOk-weaker c.insert.result _ _ (λ next is. label_comes c.args.undone.now c.args.x.now c.in_ok-added.added c.args.seen next added free is) c.insert.ensures.exact
