use Rattle.camp_ctx.proofs.Words.{ap, [], ◌∷◌, ◌∙◌}
use Rattle.camp_ctx.proofs.Standing.{named_by_context, named_by_patch}
use Rattle.camp_ctx.proofs.fast.conflicts.names.Goals as goal

pub returns-then-has_label : goal.returns-then-has_label
returns-then-has_label c =
    named_by_context c.args.y.now _ _ _ _ (c.items.ensures.exact ∙ c.context.ensures.exact) c.label-label.ensures.exact c.has_label.ensures c.if-has_label.true

pub returns : goal.returns
returns c =
    named_by_patch c.args.y.now _ _ _ _ (c.items.ensures.exact ∙ c.context.ensures.exact) c.label-label.ensures.exact c.has_label.ensures _ _ c.if-has_label.false (c.from_ref.ensures.value ∙ ap (λ p. p ∷ []) c.patch.ensures.exact) c.has_label-2.ensures
