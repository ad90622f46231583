use Rattle.std.proofs.Common.{Ok, sym, subst}
use Rattle.camp_import.specs.Inside.Changing.{StepsOr}
use Rattle.camp_import.specs.declared.entry_changes.EntryChange.{EntryChange}
use Rattle.camp_import.proofs.CommitTreeLemmas.{all_by_change}
use Rattle.camp_import.proofs.commit_trees.change_tree.Goals as goal

pub returns-in_ok-delete-in-Delete : goal.returns-in_ok-delete-in-Delete
returns-in_ok-delete-in-Delete c =
    subst (λ (change : EntryChange). StepsOr change c.args.changed.now (Ok c.in_ok-delete-in-Delete.field-0)) (sym c.in-Delete.is) c.in_ok-delete-in-Delete.ensures

pub returns-in_ok-delete_all-in-DeleteAll : goal.returns-in_ok-delete_all-in-DeleteAll
returns-in_ok-delete_all-in-DeleteAll c =
    subst (λ (change : EntryChange). StepsOr change c.args.changed.now (Ok c.in_ok-delete_all-in-DeleteAll.field-0)) (sym c.in-DeleteAll.is)
    (all_by_change c.args.changed.now c.in_ok-delete_all-in-DeleteAll.field-0 c.in_ok-delete_all-in-DeleteAll.ensures)
