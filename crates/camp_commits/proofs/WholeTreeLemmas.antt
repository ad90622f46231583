-- Whole git trees, encoded and decoded.
use Rattle.std.proofs.Common.{◌≡◌, ◌∙◌, List, [], ◌∷◌, ap, sym}
use Rattle.std.specs.FinMap.{empty, get}
use Rattle.std.specs.List.{AllByRecursion}
use Rattle.camp_coding.specs.GitTrees.{GitEntries}
use Rattle.camp_coding.proofs.GitTreeLemmas.{trees_back}
use Rattle.camp_import.specs.CommitTrees.{ChangeThrough}
use Rattle.camp_import.specs.declared.entry_changes.EntryChange.{EntryChange}
use Rattle.camp_import.specs.declared.entry_changes.EntryChange.TheVariants.{Set, Delete, DeleteAll}
use Rattle.camp_commits.specs.WholeTrees.{SetsEntry, WholeTreesComeBack, with_entries}
use Rattle.camp_commits.proofs.TreeLemmas.{encodes_empty}

-- changes that set entries lead to the tree with these
sets_entries : (changes : List EntryChange) (git after : GitEntries) → AllByRecursion SetsEntry changes → ChangeThrough changes git after → after ≡ with_entries git changes
sets_entries [] git after all same = sym same
sets_entries (Set mode content path ∷ changes) git after all through =
    sets_entries changes through.0 after all.1 through.2
    ∙ ap (λ (g : GitEntries). with_entries g changes) through.1
sets_entries (Delete path ∷ changes) git after all through = absurd all.0
sets_entries (DeleteAll ∷ changes) git after all through = absurd all.0

pub whole_trees_back : WholeTreesComeBack
whole_trees_back changes changed all gives path bytes file =
    let made = gives.1 empty encodes_empty in
    let same : made.after ≡ with_entries empty changes = sets_entries changes empty made.after all made.leads in
    let back = trees_back made.after changed.tree made.encodes path bytes file in (
      λ is. ap (λ (g : GitEntries). get g path) (sym same) ∙ back.0 is,
      λ is. back.1 (ap (λ (g : GitEntries). get g path) same ∙ is),
    )
