use Rattle.std.proofs.Common.{◌≡◌, ◌∙◌, ℕ, ap, List, None, sym, subst, true, false}
use Rattle.std.specs.Prelude.{is_some}
use Rattle.camp_coding.specs.GitPaths.{AreBytes}
use Rattle.camp_coding.specs.GitTrees.{EncodesTree, GitEntries, file_at}
use Rattle.camp_import.specs.Inside.Changing.{RemovesEntry, RemovesFolder}
use Rattle.camp_import.proofs.CommitTreeLemmas.{folder_deleted, one_deleted}
use Rattle.camp_import.proofs.commit_trees.delete.Goals as goal

pub returns-then-branch : goal.returns-then-branch
returns-then-branch c =
    let has : is_some (file_at c.args.changed.now.tree None c.deref-2.result.now) ≡ true = sym c.in_ok-has_entry.ensures ∙ c.if-branch.true in
    one_deleted c.args.path.now c.args.changed.now c.in_ok-without.without (subst AreBytes c.deref.ensures.value c.are_bytes.ensures)
    (ap (λ (p : List ℕ). is_some (file_at c.args.changed.now.tree None p)) (sym c.deref-2.ensures.value) ∙ has)
    (subst (λ (p : List ℕ). RemovesEntry p c.args.changed.now c.in_ok-without.without) c.deref-then-branch.ensures.value c.in_ok-without.ensures)

pub returns : goal.returns
returns c =
    let has : is_some (file_at c.args.changed.now.tree None c.deref-2.result.now) ≡ false = sym c.in_ok-has_entry.ensures ∙ c.if-branch.false in
    folder_deleted c.args.path.now c.args.changed.now c.in_ok-emptied.emptied (subst AreBytes c.deref.ensures.value c.are_bytes.ensures)
    (ap (λ (p : List ℕ). is_some (file_at c.args.changed.now.tree None p)) (sym c.deref-2.ensures.value) ∙ has)
    (subst (λ (p : List ℕ). (git : GitEntries) → EncodesTree git c.args.changed.now.tree → RemovesFolder p git c.args.changed.now c.in_ok-emptied.emptied) c.deref-3.ensures.value c.in_ok-emptied.ensures)
