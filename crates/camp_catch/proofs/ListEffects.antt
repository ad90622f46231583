-- Lists of catches still fit after a commute of neighbours; a merge of lists is a grid of merges.
use Rattle.camp_catch.proofs.Words.{List, [], inl, inr, refl, subst, sym, ℕ, ◌++◌, ◌∷◌, ◌≡◌, Files, Key, Align, ArrangesAfter, CatchCommutesBeforeAll, CatchMovesToFront, Fits, FitsAll, ListsKeepEffects, MergeLists, MergesWithAll, Catch}
use Rattle.camp_catch.proofs.CommuteEffects.{commute_keeps_effects}
use Rattle.camp_catch.proofs.MergeEffects.{merge_keeps_effects}

fits_as : (s t : List Catch) (old new : Files) → s ≡ t → FitsAll t old new → FitsAll s old new
fits_as s t old new e f = subst (λ x. FitsAll x old new) (sym e) f

push_fits : (s : List Catch) (k : Catch) (old between new : Files) → FitsAll s old between → Fits k between new → FitsAll (s ++ k ∷ []) old new
push_fits [] k old between new f g = (new, subst (λ t. Fits k t new) f g, refl)
push_fits (j ∷ s) k old between new f g = (f.0, f.1, push_fits s k f.0 between new f.2 g)

pub comes_before_fits : (list : List Catch) (k k' : Catch) (list' : List Catch) → CatchCommutesBeforeAll list k k' list' → (old between new : Files) → FitsAll list old between → Fits k between new → (other : Files) × Fits k' old other × FitsAll list' other new
comes_before_fits [] k k' list' w old between new f g =
    (new, subst (λ x. Fits x old new) (sym w.0) (subst (λ t. Fits k t new) f g), fits_as list' [] new new w.1 refl)
comes_before_fits (j ∷ list) k k' list' w old between new f g =
    let rest = comes_before_fits list k w.0 w.2 w.3 f.0 between new f.2 g in
    let pair = commute_keeps_effects j w.0 k' w.1 w.4 old f.0 rest.0 f.1 rest.1 in
    (pair.0, pair.1, fits_as list' (w.1 ∷ w.2) pair.0 new w.5 (rest.0, pair.2, rest.2))

arranged_behind : (names : List (List ℕ)) (rest list first others : List Catch) → ArrangesAfter names rest list first others → (old between new : Files) → FitsAll rest old between → FitsAll list between new → (other : Files) × FitsAll first old other × FitsAll others other new
arranged_behind names rest [] first others w old between new f g =
    (old, fits_as first [] old old w.0 refl, fits_as others rest old new w.1 (subst (FitsAll rest old) (sym g) f))
arranged_behind names rest (k ∷ list) first others (inl w) old between new f g =
    let come = w.1 in
    let one = comes_before_fits rest k come.0 come.1 come.3 old between g.0 f g.1 in
    let more = arranged_behind names come.1 list come.2 others come.4 one.0 g.0 new one.2 g.2 in
    (more.0, fits_as first (come.0 ∷ come.2) old more.0 come.5 (one.0, one.1, more.1), more.2)
arranged_behind names rest (k ∷ list) first others (inr w) old between new f g =
    arranged_behind names (rest ++ k ∷ []) list first others w.1 old g.0 new (push_fits rest k old between g.0 f g.1) g.2

comes_first_fits : (key : Key) (list : List Catch) (k' : Catch) (others : List Catch) → CatchMovesToFront key list k' others → (old new : Files) → FitsAll list old new → (between : Files) × Fits k' old between × FitsAll others between new
comes_first_fits key [] k' others w old new f = absurd w
comes_first_fits key (j ∷ list) k' others (inl w) old new f =
    (f.0, subst (λ x. Fits x old f.0) (sym w.1) f.1, fits_as others list f.0 new w.2 f.2)
comes_first_fits key (j ∷ list) k' others (inr w) old new f =
    let come = w.1 in
    let rest = comes_first_fits key list come.0 come.2 come.3 f.0 new f.2 in
    let pair = commute_keeps_effects j come.0 k' come.1 come.4 old f.0 rest.0 f.1 rest.1 in
    (pair.0, pair.1, fits_as others (come.1 ∷ come.2) pair.0 new come.5 (rest.0, pair.2, rest.2))

aligned_fits : (order : List Key) (list aligned : List Catch) → Align order list aligned → (old new : Files) → FitsAll list old new → FitsAll aligned old new
aligned_fits [] list aligned w old new f = fits_as aligned list old new w f
aligned_fits (key ∷ order) list aligned w old new f =
    let first = comes_first_fits key list w.0 w.1 w.3 old new f in
    fits_as aligned (w.0 ∷ w.2) old new w.5 (first.0, first.1, aligned_fits order w.1 w.2 w.4 first.0 new first.2)

merged_with_all : (q : List Catch) (k k' : Catch) (q' : List Catch) → MergesWithAll q k k' q' → (old left right : Files) → FitsAll q old left → Fits k old right → (new : Files) × Fits k' left new × FitsAll q' right new
merged_with_all [] k k' q' w old left right f g =
    (right, subst (λ x. Fits x left right) (sym w.0) (subst (λ t. Fits k t right) (sym f) g), fits_as q' [] right right w.1 refl)
merged_with_all (j ∷ q) k k' q' w old left right f g =
    let cell = merge_keeps_effects j k w.0 w.1 w.3 old f.0 right f.1 g in
    let rest = merged_with_all q w.0 k' w.2 w.4 f.0 left cell.0 f.2 cell.1 in
    (rest.0, rest.1, fits_as q' (w.1 ∷ w.2) right rest.0 w.5 (cell.0, cell.2, rest.2))

merged_fits : (p q p' q' : List Catch) → MergeLists p q p' q' → (old left right : Files) → FitsAll q old left → FitsAll p old right → (new : Files) × FitsAll p' left new × FitsAll q' right new
merged_fits [] q p' q' w old left right f g =
    (left, fits_as p' [] left left w.0 refl, fits_as q' q right left w.1 (subst (λ x. FitsAll q x left) (sym g) f))
merged_fits (k ∷ p) q p' q' w old left right f g =
    let row = merged_with_all q k w.0 w.1 w.3 old left g.0 f g.1 in
    let rest = merged_fits p w.1 w.2 q' w.4 g.0 row.0 right row.2 g.2 in
    (rest.0, fits_as p' (w.0 ∷ w.2) left rest.0 w.5 (row.0, row.1, rest.1), rest.2)

pub lists_keep_effects : ListsKeepEffects
lists_keep_effects = record { arranged = λ names list first rest w old new f. arranged_behind names [] list first rest w old old new refl f; aligned = aligned_fits; merged = merged_fits }
