-- The trees of commits as codes of git trees.
use Rattle.std.proofs.Common.{◌≡◌, ℕ, true≢false, List, Option, None, Some, refl, sym, ap, subst, ◌∙◌, ⊎_elim}
use Rattle.std.specs.Prelude.{is_some, option_and_then}
use Rattle.std.specs.Ordering.{nat_cmp}
use Rattle.std.specs.Cmp.Lexicographic.{slice_cmp}
use Rattle.std.specs.FinMap.{empty, get, get-empty, insert}
use Rattle.camp_base.specs.Trees.{Files}
use Rattle.camp_coding.specs.GitTrees.{EncodesTree, GitEntries, place_lines, place_path}
use Rattle.camp_coding.proofs.PlaceLemmas.{bytes_or_not, inserted_at, inserted_other}
use Rattle.camp_import.specs.CommitTrees.{ChangeThrough}
use Rattle.camp_import.specs.TreeChanges.{DifferWithin}
use Rattle.camp_commits.specs.Applying.{marked_if, tree_of_commit, tree_or_empty}
use Rattle.camp_commits.specs.History.{CommitTreesFollow, EncodesFound, EncodesTrees, GitTrees, git_tree_of_commit, git_tree_or_empty}
use Rattle.camp_commits.specs.Objects.{CommitTrees, Objects}
use Rattle.camp_commits.specs.declared.objects.MarkedObject.{MarkedObject}

-- the empty tree is the code of the empty git tree
pub encodes_empty : EncodesTree empty empty
encodes_empty = record {
  each = λ place path bytes.
      get-empty (slice_cmp nat_cmp) (place_path place path)
      ∙ sym (ap (option_and_then (place_lines place)) (get-empty (slice_cmp nat_cmp) path));
  nothing_else = λ camp_path lines found. absurd (true≢false (ap is_some (sym found ∙ get-empty (slice_cmp nat_cmp) camp_path)));
  paths = λ camp_path lines found. absurd (true≢false (ap is_some (sym found ∙ get-empty (slice_cmp nat_cmp) camp_path)));
}

found_encodes : (git : Option GitEntries) (files : Option Files) → EncodesFound git files → EncodesTree (git_tree_or_empty git) (tree_or_empty files)
found_encodes None None is = encodes_empty
found_encodes None (Some files) is = absurd is
found_encodes (Some git) None is = absurd is
found_encodes (Some git) (Some files) is = is

-- the tree of a commit, or the empty one, is the code of its git tree
pub tree_encodes : (git : GitTrees) (trees : CommitTrees) (id : Option (List ℕ)) → EncodesTrees git trees → EncodesTree (git_tree_of_commit git id) (tree_of_commit trees id)
tree_encodes git trees None encodes = encodes_empty
tree_encodes git trees (Some id) encodes = found_encodes (get git id) (get trees id) (encodes id)

-- the tree of one more commit
pub trees_inserted : (git : GitTrees) (trees : CommitTrees) (id : List ℕ) (after : GitEntries) (tree : Files) → EncodesTrees git trees → EncodesTree after tree → EncodesTrees (insert git id after) (insert trees id tree)
trees_inserted git trees id after tree encodes one other =
    ⊎_elim
    (λ same.
    subst (λ (o : List ℕ). EncodesFound (get (insert git id after) o) (get (insert trees id tree) o)) (sym same)
    (subst (λ (g : Option GitEntries). EncodesFound g (get (insert trees id tree) id)) (sym (inserted_at git id after))
    (subst (λ (f : Option Files). EncodesFound (Some after) f) (sym (inserted_at trees id tree)) one)))
    (λ differs.
    subst (λ (g : Option GitEntries). EncodesFound g (get (insert trees id tree) other)) (sym (inserted_other git id after other differs))
    (subst (λ (f : Option Files). EncodesFound (get git other) f) (sym (inserted_other trees id tree other differs)) (encodes other)))
    (bytes_or_not other id)

marked_trees : (objects : Objects) (mark : Option (List ℕ)) (object : MarkedObject) → (marked_if objects mark object).trees ≡ objects.trees
marked_trees objects None object = refl
marked_trees objects (Some mark) object = refl

-- the tree of a commit follows its changes
pub commits_follow : CommitTreesFollow
commits_follow git objects new commit made encodes makes =
    let changed = makes.tree.1 (git_tree_of_commit git makes.resolution.first) (tree_encodes git objects.trees makes.resolution.first encodes) in
    let trees : new.trees ≡ insert objects.trees made.id made.changed.tree =
    ap (λ (o : Objects). o.trees) makes.becomes
    ∙ marked_trees _ makes.resolution.mark _
    ∙ ap (λ (id : List ℕ). insert objects.trees id made.changed.tree) (sym makes.id) in
    record {
      after = changed.after;
      leads = subst (λ (first : Option (List ℕ)). ChangeThrough makes.changes (git_tree_of_commit git first) changed.after) (sym makes.first) changed.leads;
      encodes = changed.encodes;
      differs = subst (λ (first : Option (List ℕ)). DifferWithin made.changed.paths (tree_of_commit objects.trees first) made.changed.tree) (sym makes.first) changed.differs;
      trees = subst (EncodesTrees (insert git made.id changed.after)) (sym trees) (trees_inserted git objects.trees made.id changed.after made.changed.tree encodes changed.encodes);
    }
