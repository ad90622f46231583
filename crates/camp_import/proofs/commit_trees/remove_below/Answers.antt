use Rattle.std.proofs.Common.{◌∙◌, ℕ, List, sym, subst}
use Rattle.camp_coding.specs.GitTrees.{EncodesTree, GitEntries}
use Rattle.camp_import.specs.Inside.Changing.{RemovesIfBelow}
use Rattle.camp_import.proofs.CommitTreeLemmas.{EmptiesSoFar, empties_all, empties_one, empties_start}
use Rattle.camp_import.proofs.DifferenceLemmas.{FileEntries}
use Rattle.camp_import.proofs.commit_trees.remove_below.Goals as goal

pub files-init : goal.files-init
files-init c git encodes =
    let all = c.into_iter-file-iterator.ensures.into_iter_gives ∙ c.iter-file-items.ensures.rest in
    subst (λ (rest : FileEntries). EmptiesSoFar c.in_ok-prefix.prefix.items git c.args.old.now rest c.in_ok-changed.changed) (sym all)
    (empties_start c.in_ok-prefix.prefix.items c.args.old.now c.in_ok-changed.changed c.in_ok-changed.ensures git encodes)

pub files-preserved : goal.files-preserved
files-preserved c git encodes =
    empties_one c.in_ok-prefix.prefix.items git c.args.old.now c.in-Some.file.now c.files.file-iterator c.next.new.self
    c.files.changed c.in_ok-changed-2.changed c.in-Some.ensures.steps
    (subst (λ (p : List ℕ). (middle : GitEntries) → EncodesTree middle c.files.changed.tree → RemovesIfBelow c.in-Some.file.now.0 p middle c.files.changed c.in_ok-changed-2.changed) c.deref.ensures.value c.in_ok-changed-2.ensures) (c.files.invariant git encodes)

pub returns : goal.returns
returns c git encodes =
    empties_all c.args.folder.now c.in_ok-prefix.prefix.items git c.args.old.now c.files.file-iterator c.files.changed
    c.in_ok-prefix.ensures c.in-None.ensures.steps.0 (c.files.invariant git encodes)
