-- Texts that grow by the commands of changes, path by path.
use Rattle.camp_git.proofs.Words.{◌≡◌, ◌∷◌, [], ◌++◌, ◌∙◌, ◌<◌, ℕ, List, map, sym, ap, subst, append_assoc, append-nil}
use Rattle.std.specs.List.{flat_map}
use Rattle.std.proofs.lemmas.Grind.{flat_map-append}
use Rattle.camp_branch.proofs.Names.{all_append}
use Rattle.camp_git.specs.Exports.{reference_of}
use Rattle.std.specs.Prelude.{codes}
use Rattle.camp_base.specs.Signs.{newline}
use Rattle.camp_git.specs.FastImport.{CanBeNamed, FileChange, FileModify, HasGoodPath, IsOneLine, change_command, data_text, head_text, line, path_text}
use Rattle.camp_git.specs.Inside.Commits.{GrowsBy, IsWritten, commit_at}
use Rattle.camp_git.specs.declared.commits.Place.{Place}

pub grows_more : (old text new : List ℕ) (xs ys : List FileChange) → GrowsBy old xs text → GrowsBy text ys new → GrowsBy old (xs ++ ys) new
grows_more old text new xs ys v w = (
  w.0 ∙ ap (λ t. t ++ flat_map change_command ys) v.0 ∙ append_assoc old (flat_map change_command xs) (flat_map change_command ys) ∙ ap (λ t. old ++ t) (sym (flat_map-append change_command xs ys)),
  all_append HasGoodPath xs ys v.1 w.1,
)

pub grows_not : (text : List ℕ) → GrowsBy text [] text
grows_not text = (sym (append-nil text), tt)

-- one change more
pub grows_by_one : (old new : List ℕ) (change : FileChange) → new ≡ old ++ change_command change → HasGoodPath change → GrowsBy old (change ∷ []) new
grows_by_one old new change is good = (is ∙ ap (λ t. old ++ t) (sym (append-nil (change_command change))), (good, tt))

-- a file with its content, piece by piece
pub grows_by_file : (old word named ended new path content : List ℕ) → word ≡ old ++ codes "M 100644 inline " → named ≡ word ++ path_text path → ended ≡ named ++ newline ∷ [] → CanBeNamed path → new ≡ ended ++ data_text content → GrowsBy old (FileModify path content ∷ []) new
grows_by_file old word named ended new path content first second third good fourth =
    let told = ap (λ t. t ++ newline ∷ []) (second ∙ ap (λ t. t ++ path_text path) first ∙ append_assoc old (codes "M 100644 inline ") (path_text path)) ∙ append_assoc old (codes "M 100644 inline " ++ path_text path) (newline ∷ []) in
    grows_by_one old new (FileModify path content) (fourth ∙ ap (λ t. t ++ data_text content) (third ∙ told) ∙ append_assoc old (line (codes "M 100644 inline " ++ path_text path)) (data_text content)) good

-- a text that grows by the changes at the rest of the paths has grown by those at all of them
abbrev pub GoesOn : (List ℕ → List FileChange) → List (List ℕ) → List ℕ → List ℕ → List (List ℕ × Unit {0}) → Type 0
GoesOn f all first text rest =
    (final : List ℕ) → GrowsBy text (flat_map f (map (λ entry. entry.0) rest)) final → GrowsBy first (flat_map f all) final

pub one_more : (f : List ℕ → List FileChange) (all : List (List ℕ)) (rest more : List (List ℕ × Unit {0})) (e : List ℕ × Unit {0}) (first text next : List ℕ) → rest ≡ e ∷ more → GrowsBy text (f e.0) next → GoesOn f all first text rest → GoesOn f all first next more
one_more f all rest more e first text next is grown on final later =
    on final (subst (λ r. GrowsBy text (flat_map f (map (λ entry. entry.0) r)) final) (sym is) (grows_more text next final (f e.0) (flat_map f (map (λ entry. entry.0) more)) grown later))

pub all_there : (f : List ℕ → List FileChange) (all : List (List ℕ)) (rest : List (List ℕ × Unit {0})) (first text : List ℕ) → rest ≡ [] → GoesOn f all first text rest → GrowsBy first (flat_map f all) text
all_there f all rest first text is on =
    on text (subst (λ r. GrowsBy text (flat_map f (map (λ entry. entry.0) r)) text) (sym is) (grows_not text))

-- a commit up to its changes, and then these
pub written : (old text new : List ℕ) (place : Place) (changes : List FileChange) → text ≡ old ++ head_text (commit_at place []) → 0 < place.mark → IsOneLine (reference_of place.branch) → GrowsBy text changes new → IsWritten old (commit_at place changes) new
written old text new place changes head mark named grown = (
  grown.0 ∙ ap (λ t. t ++ flat_map change_command changes) head ∙ append_assoc old (head_text (commit_at place [])) (flat_map change_command changes),
  record { reference = named; mark = mark; paths = grown.1 },
)
