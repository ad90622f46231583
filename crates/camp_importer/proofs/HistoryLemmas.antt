-- Commits one after the other.
use Rattle.std.proofs.Common.{◌≡◌, ℕ, ◌+◌, ◌<◌, ◌≤◌, List, [], ◌∷◌, ◌++◌, Ok, Err, drop, get_or, length, take, refl, sym, ap, ◌∙◌, subst}
use Rattle.std.proofs.lemmas.List.{take-append-drop, take_all, take_more}
use Rattle.camp_import.specs.declared.commits.Commit.{Commit}
use Rattle.camp_importer.proofs.PullLemmas.{next_left}
use Rattle.camp_importer.specs.Calling.{RepositoryBook}
use Rattle.camp_importer.specs.Commits.{ImportsCommit}
use Rattle.camp_importer.specs.Histories.{ImportsEach, StopsAtCommit}
use Rattle.camp_importer.specs.declared.faults.ImportFault.{ImportFault}
use Rattle.camp_importer.specs.declared.importing.Imported.{Imported}
use Rattle.camp_importer.specs.declared.moments.Moments.{Moments}
use Rattle.camp_importer.specs.declared.places.Place.{Place}

one_more : (moments : Moments) (front : List (Commit × Place)) (planned : Commit × Place) (imported : Imported) (old mid new : RepositoryBook) → ImportsEach moments front old mid → ImportsCommit planned.0 planned.1 moments mid (Ok imported) new → ImportsEach moments (front ++ planned ∷ []) old new
one_more moments [] planned imported old mid new same imports = (
  imported,
  (new, subst (λ (book : RepositoryBook). ImportsCommit planned.0 planned.1 moments book (Ok imported) new) same imports, refl),
)
one_more moments (first ∷ front) planned imported old mid new each imports =
    (each.0, (each.1.0, each.1.1, one_more moments front planned imported each.1.0 mid new each.1.2 imports))

-- the commits up to an index, and the one at it
pub imported_on : (moments : Moments) (commits : List (Commit × Place)) (index : ℕ) (planned : Commit × Place) (imported : Imported) (old mid new : RepositoryBook) → index < length commits → planned ≡ get_or commits index planned → ImportsEach moments (take index commits) old mid → ImportsCommit planned.0 planned.1 moments mid (Ok imported) new → ImportsEach moments (take (index + 1) commits) old new
imported_on moments commits index planned imported old mid new within is each imports =
    let grown : take (index + 1) commits ≡ take index commits ++ planned ∷ [] =
    take_more commits index planned within ∙ ap (λ (p : Commit × Place). take index commits ++ p ∷ []) (sym is) in
    subst (λ (front : List (Commit × Place)). ImportsEach moments front old new) (sym grown) (one_more moments (take index commits) planned imported old mid new each imports)

-- the commit at an index is not imported
pub stops_here : (moments : Moments) (commits : List (Commit × Place)) (index : ℕ) (planned : Commit × Place) (old mid : RepositoryBook) (fault : ImportFault) (new : RepositoryBook) → index < length commits → planned ≡ get_or commits index planned → ImportsEach moments (take index commits) old mid → ImportsCommit planned.0 planned.1 moments mid (Err fault) new → StopsAtCommit moments commits old fault new
stops_here moments commits index planned old mid fault new within is each stops = record {
  front = take index commits;
  planned = planned;
  rest = drop (index + 1) commits;
  is = sym (take-append-drop index commits) ∙ ap (λ (left : List (Commit × Place)). take index commits ++ left) (next_left commits index planned within is);
  between = mid;
  imports = each;
  stops = stops;
}

-- all commits are imported
pub imported_all : (moments : Moments) (commits : List (Commit × Place)) (index : ℕ) (old new : RepositoryBook) → length commits ≤ index → ImportsEach moments (take index commits) old new → ImportsEach moments commits old new
imported_all moments commits index old new past each =
    subst (λ (all : List (Commit × Place)). ImportsEach moments all old new) (take_all index commits past) each
