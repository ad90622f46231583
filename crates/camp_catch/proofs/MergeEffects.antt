-- Merging keeps effects and is symmetric: each case gives a square of trees.
use Rattle.camp_catch.proofs.Words.{List, [], inl, inr, refl, subst, sym, ◌++◌, ◌∷◌, ◌≡◌, Files, Applies, inverse_of, Named, ordered, split, cut_run, runs_back, cell_is_symmetric, merge_closes, Norm, AppliesAll, inverse_all, run_along, valid_by_adding, valid_by_adding_all, conflict_is_symmetric, merge_behind_is_symmetric, AddsToContext, Conflict, MergesCleanlyAfterCommon, common_labels, ContextedPatch, Valid, bare, Fits, against, in_conflict_with, with_effect, CatchMergeIsSymmetric, MergeKeepsEffects, Clean, FirstConflict, JoinsWhere, PlainBesideConflictor, PlainJoinsConflictor, TwoConflictors, Catch, Plain, Conflictor}
use Rattle.camp_catch.proofs.Fitting.{plain_fits, conflictor_fits, becomes_fits, added_fits, joined_fits, one_runs, one_back, row_closes, run_once, only_valid}

-- two catches that fit, each in a tree of its own, and end in the same tree
abbrev pub FitMeeting : Catch → Catch → Files → Files → Type 0
FitMeeting k j left right = (new : Files) × Fits k left new × Fits j right new

-- one case keeps effects
abbrev ClosesSquares : Catch → Catch → (Catch → Catch → Type 0) → Type 0
ClosesSquares j k Case =
    (k' j' : Catch) → Case k' j' → (old left right : Files) → Fits j old left → Fits k old right → FitMeeting k' j' left right

clean : (a b : Named) → ClosesSquares (Plain a) (Plain b) (Clean a b)
clean a b k' j' w old left right f g =
    let cell = row_closes a (b ∷ []) (w.b' ∷ []) w.a' (w.b', w.a', [], w.merge, (refl, refl), refl) old left right f.effect g.effect in
    rw (w.after, w.beside) (cell.0, plain_fits w.b' left cell.0 cell.1, plain_fits w.a' right cell.0 cell.2)

-- undoing one of two patches that conflict leads back to the tree from which both began
undoing_fits : (a b : Named) (old left right : Files) → AppliesAll (a ∷ []) old left → AppliesAll (b ∷ []) old right → Fits (Catch.Conflictor (against a b)) left old
undoing_fits a b old left right first second =
    conflictor_fits (against a b) left old (one_runs (inverse_of a) left old (one_back a old left first)) (only_valid old (bare a) (left, first)) (right, second)

first_conflict : (a b : Named) → ClosesSquares (Plain a) (Plain b) (FirstConflict a b)
first_conflict a b k' j' w old left right f g =
    rw (w.after, w.beside) (old, undoing_fits a b old left right f.effect g.effect, undoing_fits b a old right left g.effect f.effect)

plain_beside_conflictor : (a : Named) (k : Conflictor) → ClosesSquares (Plain a) (Catch.Conflictor k) (PlainBesideConflictor a k)
plain_beside_conflictor a k k' j' w old left right f g =
    let row = row_closes a k.effect w.merged w.a' w.merge old left right f.effect g.effect in
    let undo = inverse_of w.a' in
    let effect = run_along w.merged w.moved.effect (ordered w.merged w.moved.effect w.becomes.effect) left row.0 row.1 in
    let moved = becomes_fits (Norm w.merged) (AddsToContext undo) (AddsToContext undo) (Applies undo.prim) (valid_by_adding undo) (valid_by_adding undo) k w.moved w.becomes left row.0 right effect (one_back w.a' right row.0 row.2) g.seen in
    rw (w.after, w.beside) (row.0, moved, plain_fits w.a' right row.0 row.2)

plain_joins_conflictor : (a : Named) (k : Conflictor) → ClosesSquares (Plain a) (Catch.Conflictor k) (PlainJoinsConflictor a k)
plain_joins_conflictor a k k' j' w old left right f g =
    let taken : Conflictor = with_effect w.effect k in
    let back = runs_back k.effect old right g.effect in
    let valid : Valid right w.z = valid_by_adding_all (inverse_all k.effect) (bare a) w.z w.becomes right old back (left, f.effect) in
    let run : AppliesAll (inverse_of a ∷ k.effect) left right = (old, one_back a old left f.effect, g.effect) in
    let effect = run_along (inverse_of a ∷ k.effect) w.effect (ordered (inverse_of a ∷ k.effect) w.effect w.joined) left right run in
    rw (w.after, w.beside) (right, joined_fits taken w.z left right (conflictor_fits taken left right effect g.seen.0 g.seen.1) valid, conflictor_fits (in_conflict_with k.identity w.z) right right refl (only_valid right k.identity g.seen.1) valid)

-- lists that merge cleanly after their common part give a square of trees
behind_common_closes : (s t t' s' : List Named) → MergesCleanlyAfterCommon s t t' s' → (old left right : Files) → AppliesAll s old left → AppliesAll t old right → (new : Files) × AppliesAll t' left new × AppliesAll s' right new
behind_common_closes s t t' s' w old left right first second =
    let labels = common_labels s t in
    let one = cut_run w.common w.s1 old left (run_along s (w.common ++ w.s1) (split labels s w.common w.s1 w.first) old left first) in
    let other = cut_run w.common w.t1 old right (run_along t (w.common ++ w.t1) (split labels t w.common w.t1 w.second) old right second) in
    let same : other.0 ≡ one.0 = run_once w.common old other.0 one.0 other.1 one.1 in
    merge_closes w.s1 w.t1 t' s' w.merge one.0 left right one.2 (subst (λ tree. AppliesAll w.t1 tree right) same other.2)

joins_fit : (Holds : Type 0) (l : ContextedPatch) (j k : Conflictor) → JoinsWhere Holds l j k → (old new : Files) → Fits (Catch.Conflictor j) old new → Valid new l → Fits (Catch.Conflictor k) old new
joins_fit Holds l j k (inl w) old new f valid =
    subst (λ c. Fits (Catch.Conflictor c) old new) (sym w.1) (joined_fits j l old new f valid)
joins_fit Holds l j k (inr w) old new f valid = subst (λ c. Fits (Catch.Conflictor c) old new) (sym w.1) f

two_conflictors : (j k : Conflictor) → ClosesSquares (Catch.Conflictor j) (Catch.Conflictor k) (TwoConflictors j k)
two_conflictors j k k' j' w old left right f g =
    let square = behind_common_closes j.effect k.effect w.merged w.left w.merge old left right f.effect g.effect in
    let new = square.0 in
    let effect = run_along w.merged w.s2 (ordered w.merged w.s2 w.effect) left new square.1 in
    let own_effect = run_along w.left w.r2 (ordered w.left w.r2 w.own_effect) right new square.2 in
    let moved = added_fits (inverse_all w.r2) w.s2 k w.moved w.becomes left new right effect (runs_back w.r2 right new own_effect) g.seen in
    let own = added_fits (inverse_all w.s2) w.r2 j w.own w.own_becomes right new left own_effect (runs_back w.s2 left new effect) f.seen in
    rw (w.after, w.beside) (new, joins_fit _ w.own.identity w.moved w.joined w.joins left new moved own.seen.1, joins_fit _ w.moved.identity w.own w.own_joined w.own_joins right new own moved.seen.1)

-- the mirror image of a square
mirrored : (k j : Catch) (left right : Files) → FitMeeting k j left right → FitMeeting j k right left
mirrored k j left right both = (both.0, both.2, both.1)

pub merge_keeps_effects : MergeKeepsEffects
merge_keeps_effects (Plain a) (Plain b) k' j' (inl w) = clean a b k' j' w
merge_keeps_effects (Plain a) (Plain b) k' j' (inr w) = first_conflict a b k' j' w
merge_keeps_effects (Plain a) (Catch.Conflictor k) k' j' (inl w) = plain_beside_conflictor a k k' j' w
merge_keeps_effects (Plain a) (Catch.Conflictor k) k' j' (inr w) = plain_joins_conflictor a k k' j' w
merge_keeps_effects (Catch.Conflictor j) (Plain b) k' j' (inl w) = λ old left right f g.
    mirrored j' k' right left (plain_beside_conflictor b j j' k' w old right left g f)
merge_keeps_effects (Catch.Conflictor j) (Plain b) k' j' (inr w) = λ old left right f g.
    mirrored j' k' right left (plain_joins_conflictor b j j' k' w old right left g f)
merge_keeps_effects (Catch.Conflictor j) (Catch.Conflictor k) k' j' w = two_conflictors j k k' j' w

pub joins_alike : (One Other : Type 0) (l : ContextedPatch) (j k : Conflictor) → (One → Other) → (Other → One) → JoinsWhere One l j k → JoinsWhere Other l j k
joins_alike One Other l j k to from (inl w) = inl (to w.0, w.1)
joins_alike One Other l j k to from (inr w) = inr ((λ h. w.0 (from h)), w.1)

two_are_symmetric : (j k : Conflictor) (k' j' : Catch) → TwoConflictors j k k' j' → TwoConflictors k j j' k'
two_are_symmetric j k k' j' w =
    let to = conflict_is_symmetric w.x w.y in
    let from = conflict_is_symmetric w.y w.x in record {
      merged = w.left;
      left = w.merged;
      merge = merge_behind_is_symmetric j.effect k.effect w.merged w.left w.merge;
      s2 = w.r2;
      r2 = w.s2;
      effect = w.own_effect;
      own_effect = w.effect;
      moved = w.own;
      own = w.moved;
      becomes = w.own_becomes;
      own_becomes = w.becomes;
      y = w.x;
      x = w.y;
      sees = w.own_sees;
      own_sees = w.sees;
      joined = w.own_joined;
      own_joined = w.joined;
      joins = joins_alike (Conflict w.x w.y) (Conflict w.y w.x) w.moved.identity w.own w.own_joined to from w.own_joins;
      own_joins = joins_alike (Conflict w.x w.y) (Conflict w.y w.x) w.own.identity w.moved w.joined to from w.joins;
      after = w.beside;
      beside = w.after;
    }

pub merging_is_symmetric : CatchMergeIsSymmetric
merging_is_symmetric (Plain a) (Plain b) k' j' (inl w) =
    inl (record { b' = w.a'; a' = w.b'; merge = cell_is_symmetric a b w.b' w.a' w.merge; after = w.beside; beside = w.after })
merging_is_symmetric (Plain a) (Plain b) k' j' (inr w) =
    inr (record { no_merge = λ b' a' m. w.no_merge a' b' (cell_is_symmetric b a b' a' m); after = w.beside; beside = w.after })
merging_is_symmetric (Plain a) (Catch.Conflictor k) k' j' w = w
merging_is_symmetric (Catch.Conflictor j) (Plain b) k' j' w = w
merging_is_symmetric (Catch.Conflictor j) (Catch.Conflictor k) k' j' w = two_are_symmetric j k k' j' w
