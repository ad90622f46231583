-- Copies of a branch, one after the other.
use Rattle.std.proofs.Common.{◌≡◌, ℕ, ◌+◌, ◌<◌, ◌≤◌, List, [], ◌∷◌, ◌++◌, drop, get_or, length, take, refl, sym, ap, ◌∙◌, subst}
use Rattle.std.proofs.lemmas.List.{take-append-drop, take_all, take_more}
use Rattle.camp_importer.proofs.PullLemmas.{next_left}
use Rattle.camp_importer.specs.Calling.{FailsOn, RepositoryBook}
use Rattle.camp_importer.specs.Copies.{CopiesEach, StopsCopying}
use Rattle.camp_importer.specs.Steps.{CopiesFirst, StartsFrom}
use Rattle.camp_importer.specs.declared.faults.Reason.{Reason}

one_more : (from : List ℕ) (front : List (List ℕ)) (copy : List ℕ) (old mid new : RepositoryBook) → CopiesEach from front old mid → StartsFrom from copy mid new → CopiesEach from (front ++ copy ∷ []) old new
one_more from [] copy old mid new same starts =
    (new, subst (λ (book : RepositoryBook). StartsFrom from copy book new) same starts, refl)
one_more from (first ∷ front) copy old mid new each starts = (each.0, each.1, one_more from front copy each.0 mid new each.2 starts)

-- the copies up to an index, and the one at it
pub copied_on : (from : List ℕ) (copies : List (List ℕ)) (index : ℕ) (copy : List ℕ) (old mid new : RepositoryBook) → index < length copies → copy ≡ get_or copies index copy → CopiesEach from (take index copies) old mid → StartsFrom from copy mid new → CopiesEach from (take (index + 1) copies) old new
copied_on from copies index copy old mid new within is each starts =
    let grown : take (index + 1) copies ≡ take index copies ++ copy ∷ [] =
    take_more copies index copy within ∙ ap (λ (c : List ℕ). take index copies ++ c ∷ []) (sym is) in
    subst (λ (front : List (List ℕ)). CopiesEach from front old new) (sym grown) (one_more from (take index copies) copy old mid new each starts)

-- the copy at an index is not made
pub copying_stops : (from : List ℕ) (copies : List (List ℕ)) (index : ℕ) (copy : List ℕ) (old mid : RepositoryBook) (why : Reason) (new : RepositoryBook) → index < length copies → copy ≡ get_or copies index copy → CopiesEach from (take index copies) old mid → FailsOn (CopiesFirst from copy) copy mid why new → StopsCopying from copies old why new
copying_stops from copies index copy old mid why new within is each fails = record {
  front = take index copies;
  copy = copy;
  rest = drop (index + 1) copies;
  is = sym (take-append-drop index copies) ∙ ap (λ (left : List (List ℕ)). take index copies ++ left) (next_left copies index copy within is);
  between = mid;
  made = each;
  stops = fails;
}

-- all copies are made
pub copied_all : (from : List ℕ) (copies : List (List ℕ)) (index : ℕ) (old new : RepositoryBook) → length copies ≤ index → CopiesEach from (take index copies) old new → CopiesEach from copies old new
copied_all from copies index old new past each =
    subst (λ (all : List (List ℕ)). CopiesEach from all old new) (take_all index copies past) each
