use Rattle.std.proofs.Common.{◌∙◌, ◌++◌, ◌∷◌, [], List, ap, ℕ}
use Rattle.camp_prim.specs.declared.primitives.Primitive.TheVariants.{Remove}
use Rattle.camp_import.proofs.FileLemmas.{removed}
use Rattle.camp_import.proofs.file_changes.append_removed.Goals as goal

pub returns : goal.returns
returns c =
    removed c.args.path.now c.args.old.now c.deref.result.now c.args.changes.now.items c.append_edits.new.changes.items c.push.new.self.items
    (c.deref.ensures.value ∙ c.in_ok-to_vec.ensures.exact) c.in_ok-append_edits.ensures
    (c.in_ok-push.ensures.items ∙ ap (λ (p : List ℕ). c.append_edits.new.changes.items ++ Remove p ∷ []) c.in_ok-try_clone.ensures.exact)
