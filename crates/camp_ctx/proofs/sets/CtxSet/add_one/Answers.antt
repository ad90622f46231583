use Rattle.camp_ctx.proofs.Words.{◌∙◌, ap, [], ◌++◌}
use Rattle.camp_ctx.proofs.SetChanges.{added_alone}
use Rattle.camp_ctx.proofs.sets.CtxSet.add_one.Goals as goal

pub returns : goal.returns
returns c = record { exact = added_alone c.args.a.now _ c.args.set.now _ (c.in_ok-list.ensures.exact ∙ ap (λ s. s ++ []) c.from_ref.ensures.value) c.in_ok-add.ensures.exact }
