use Rattle.std.proofs.Common.{◌∙◌, ◌++◌, ◌∷◌, [], List, ap, ℕ}
use Rattle.camp_prim.specs.declared.primitives.Primitive.TheVariants.{Add}
use Rattle.camp_import.proofs.FileLemmas.{added_or}
use Rattle.camp_import.proofs.file_changes.append_added.Goals as goal

pub returns : goal.returns
returns c =
    added_or c.args.path.now c.args.new.now c.deref.result.now c.args.changes.now.items c.push.new.self.items c.append_edits.new.changes.items c.append_edits.result
    (c.in_ok-push.ensures.items ∙ ap (λ (p : List ℕ). c.args.changes.now.items ++ Add p ∷ []) c.in_ok-try_clone.ensures.exact) (c.deref.ensures.value ∙ c.in_ok-to_vec.ensures.exact) c.append_edits.ensures
