use Rattle.std.proofs.Common.{List, Ok, Err, refl, subst}
use Rattle.std.proofs.lemmas.Result.{err_from_is_err_and}
use Rattle.camp_import.specs.CommitTrees.{GivesTree}
use Rattle.camp_import.specs.declared.entry_changes.EntryChange.{EntryChange}
use Rattle.camp_stream.specs.CommandValues.{value_of_commit}
use Rattle.camp_commits.specs.Applying.{tree_of_commit}
use Rattle.camp_commits.specs.Inside.Making.{MakesTree, value_of_resolved}
use Rattle.camp_commits.proofs.CommitLemmas.{texts_fail, tree_fails}
use Rattle.camp_commits.proofs.applying.apply_commit.Goals as goal

pub returns-in_err-resolved : goal.returns-in_err-resolved
returns-in_err-resolved c =
    let p = err_from_is_err_and c.from_residual.result c.from_residual.ensures.1 in
    rw (p.1, p.2) (texts_fail c.args.objects.now (value_of_commit c.args.commit.now) c.in_err-resolved.field-0.0 c.in_err-resolved.ensures)

pub returns-in_err-changed : goal.returns-in_err-changed
returns-in_err-changed c =
    let p = err_from_is_err_and c.from_residual-in_err-changed.result c.from_residual-in_err-changed.ensures.1 in
    rw (p.1, p.2)
    (tree_fails c.args.objects.now (value_of_commit c.args.commit.now) (value_of_resolved c.in_ok-resolved.resolved) c.in_ok-resolved.resolved.changes.items c.in_err-changed.field-0.0
    (record { resolves = c.in_ok-resolved.ensures; are = refl })
    (subst (λ (l : List EntryChange). MakesTree (tree_of_commit c.args.objects.now.trees c.in_ok-resolved.resolved.first) l (Err c.in_err-changed.field-0.0)) c.deref.ensures.value c.in_err-changed.ensures))

pub returns : goal.returns
returns c = record {
  resolution = value_of_resolved c.in_ok-resolved.resolved;
  changes = c.in_ok-resolved.resolved.changes.items;
  resolved = record { resolves = c.in_ok-resolved.ensures; are = refl };
  id = refl;
  first = refl;
  others = refl;
  tree = subst (λ (l : List EntryChange). GivesTree (tree_of_commit c.args.objects.now.trees c.in_ok-resolved.resolved.first) l (Ok c.in_ok-changed.changed)) c.deref.ensures.value c.in_ok-changed.ensures;
  becomes = c.in_ok-new.ensures;
}
