-- The grid of a clean merge: it gives a square of trees, is symmetric, and is the same as commuting past the inverse.
use Rattle.camp_seq.proofs.Words.{◌≡◌, List, [], ◌∷◌, ◌++◌, refl, sym, ap, ◌∙◌, subst, inverse_of, Commute, Named, inverse_of-inverse_of, own_inverse, square, MergeCloses, MergeIsEquivalent, MergeIsSymmetric, MergeIsPassing, Merges, MergesOne, CleanMerge, Passes, PassesAll, inverse_all}
use Rattle.camp_seq.proofs.ListEquivalence.{all_passed}
use Rattle.camp_seq.proofs.ListRuns.{joined_runs, cut_run, equivalent_run, inverse_all-cons, inverse_all-append, inverse_all-inverse_all, inverse_all_leads_back}

-- a cell read in the other direction: [a] [b'] <-> [b] [a']
cell_passes : (a b b' a' : Named) → Merges a b b' a' → Commute a b' b a'
cell_passes a b b' a' m =
    subst (λ (x : Named × Named). Commute x.0 b' b x.1) (λ i. (inverse_of-inverse_of a i, inverse_of-inverse_of a' i)) (square (inverse_of a) b b' (inverse_of a') m)

column_passes : (a : Named) (bs b' : List Named) (a' : Named) → MergesOne a bs b' a' → Passes a b' bs a'
column_passes a [] b' a' m = subst (λ x. Passes a x [] a') (sym m.0) (refl, m.1)
column_passes a (b ∷ bs) b' a' m =
    subst (λ x. Passes a x (b ∷ bs) a') (sym m.5) (b, m.1, bs, cell_passes a b m.0 m.1 m.3, column_passes m.1 bs m.2 a' m.4, refl)

-- a commutes past what b becomes after it
grid_passes : (a b b' a' : List Named) → CleanMerge a b b' a' → PassesAll a b' b a'
grid_passes [] b b' a' m = (sym m.0, m.1)
grid_passes (p ∷ a) b b' a' m =
    (m.0, m.1, m.2, grid_passes a m.0 b' m.2 m.4, column_passes p b m.0 m.1 m.3, m.5)

pub merge_is_equivalent : MergeIsEquivalent
merge_is_equivalent a b b' a' m = all_passed a b' b a' (grid_passes a b b' a' m)

-- a cell is symmetric
pub cell_is_symmetric : (a b b' a' : Named) → Merges a b b' a' → Merges b a a' b'
cell_is_symmetric a b b' a' m =
    square b a' a b' (own_inverse a b' b a' (cell_passes a b b' a' m))

-- a list merged with the empty list
pub beside_none : (b : List Named) → CleanMerge b [] [] b
beside_none [] = (refl, refl)
beside_none (p ∷ b) = ([], p, b, (refl, refl), beside_none b, refl)

-- a grid with a first column added
pub with_column : (p : Named) (b beside : List Named) (p' : Named) (a t b' : List Named) → MergesOne p b beside p' → CleanMerge beside a t b' → CleanMerge b (p ∷ a) (p' ∷ t) b'
with_column p [] beside p' a t b' m g =
    let rest : CleanMerge [] a t b' = subst (λ s. CleanMerge s a t b') m.0 g in
    (ap (λ x. x ∷ t) m.1 ∙ ap (λ x. p ∷ x) rest.0, rest.1)
with_column p (q ∷ bs) beside p' a t b' m g =
    let rest : CleanMerge (m.0 ∷ m.2) a t b' = subst (λ s. CleanMerge s a t b') m.5 g in
    (m.1 ∷ rest.0, rest.1, rest.2, (m.1, m.0, rest.0, cell_is_symmetric p q m.0 m.1 m.3, rest.3, refl), with_column m.1 bs m.2 p' rest.0 t rest.2 m.4 rest.4, rest.5)

pub merge_is_symmetric : MergeIsSymmetric
merge_is_symmetric [] b b' a' m =
    subst (λ s. CleanMerge b [] s b') (sym m.1) (subst (λ s. CleanMerge b [] [] s) (sym m.0) (beside_none b))
merge_is_symmetric (p ∷ a) b b' a' m =
    subst (λ s. CleanMerge b (p ∷ a) s b') (sym m.5) (with_column p b m.0 m.1 a m.2 b' m.3 (merge_is_symmetric a m.0 b' m.2 m.4))

pub row_passes : (a : Named) (bs b' : List Named) (a' : Named) → MergesOne a bs b' a' → Passes (inverse_of a) bs b' (inverse_of a')
row_passes a [] b' a' m = (m.0, ap inverse_of m.1)
row_passes a (b ∷ bs) b' a' m = (m.0, inverse_of m.1, m.2, m.3, row_passes m.1 bs m.2 a' m.4, m.5)

pub passes_row : (x : Named) (bs b' : List Named) (x' : Named) → Passes x bs b' x' → MergesOne (inverse_of x) bs b' (inverse_of x')
passes_row x [] b' x' m = (m.0, ap inverse_of m.1)
passes_row x (b ∷ bs) b' x' m =
    let cell = subst (λ (y : Named × Named). Commute y.0 b m.0 y.1) (λ i. (sym (inverse_of-inverse_of x) i, sym (inverse_of-inverse_of m.1) i)) m.3 in
    (m.0, inverse_of m.1, m.2, cell, passes_row m.1 bs m.2 x' m.4, m.5)

-- if x commutes past a list first, it can be appended to a list that commutes past
pub passes_all_push : (r : List Named) (x : Named) (s t : List Named) (x' : Named) (s' q : List Named) → Passes x s t x' → PassesAll r t s' q → PassesAll (r ++ x ∷ []) s s' (q ++ x' ∷ [])
passes_all_push [] x s t x' s' q v w =
    (s, x', [], (refl, refl), subst (λ y. Passes x s y x') (sym w.0) v, ap (λ y. y ++ x' ∷ []) w.1)
passes_all_push (p ∷ r) x s t x' s' q v w =
    (w.0, w.1, w.2 ++ x' ∷ [], passes_all_push r x s t x' w.0 w.2 v w.3, w.4, ap (λ y. y ++ x' ∷ []) w.5)

-- the last element of a list is the first to commute past
pub last_passes : (r : List Named) (x : Named) (s s' r' : List Named) → PassesAll (r ++ x ∷ []) s s' r' → (t : List Named) × (x' : Named) × (q : List Named) × Passes x s t x' × PassesAll r t s' q × (r' ≡ q ++ x' ∷ [])
last_passes [] x s s' r' w =
    (s', w.1, [], subst (λ y. Passes x y s' w.1) w.3.0 w.4, (refl, refl), w.5 ∙ ap (λ y. w.1 ∷ y) w.3.1)
last_passes (p ∷ r) x s s' r' w =
    let rest = last_passes r x s w.0 w.2 w.3 in
    (rest.0, rest.1, w.1 ∷ rest.2, rest.3, (w.0, w.1, rest.2, rest.4, w.4, refl), w.5 ∙ ap (λ y. w.1 ∷ y) rest.5)

pub merge_passes : (a b b' a' : List Named) → CleanMerge a b b' a' → PassesAll (inverse_all a) b b' (inverse_all a')
merge_passes [] b b' a' m = (m.0, ap inverse_all m.1)
merge_passes (p ∷ a) b b' a' m =
    let all = passes_all_push (inverse_all a) (inverse_of p) b m.0 (inverse_of m.1) b' (inverse_all m.2) (row_passes p b m.0 m.1 m.3) (merge_passes a m.0 b' m.2 m.4) in
    subst (λ r. PassesAll r b b' (inverse_all a')) (sym (inverse_all-cons p a)) (subst (λ r. PassesAll (inverse_all a ++ inverse_of p ∷ []) b b' r) (sym (inverse_all-cons m.1 m.2) ∙ ap inverse_all (sym m.5)) all)

-- the other list may be any
pub passing_merges : (a b b' r' : List Named) → PassesAll (inverse_all a) b b' r' → CleanMerge a b b' (inverse_all r')
passing_merges [] b b' r' w = (w.0, ap inverse_all w.1)
passing_merges (p ∷ a) b b' r' w =
    let last = last_passes (inverse_all a) (inverse_of p) b b' r' (subst (λ r. PassesAll r b b' r') (inverse_all-cons p a) w) in
    let row : MergesOne p b last.0 (inverse_of last.1) =
    subst (λ x. MergesOne x b last.0 (inverse_of last.1)) (inverse_of-inverse_of p) (passes_row (inverse_of p) b last.0 last.1 last.3) in
    (last.0, inverse_of last.1, inverse_all last.2, row, passing_merges a last.0 b' last.2 last.4, ap inverse_all last.5 ∙ inverse_all-append last.2 (last.1 ∷ []))

pub merge_is_passing : MergeIsPassing
merge_is_passing a b b' a' =
    (merge_passes a b b' a', λ w. subst (λ x. CleanMerge a b b' x) (inverse_all-inverse_all a') (passing_merges a b b' (inverse_all a') w))

-- undoing the one list and then the other leads to the same tree as undoing them in the other order
pub merge_closes : MergeCloses
merge_closes a b b' a' m old left right x y =
    let around = joined_runs (inverse_all a) b left old right ((inverse_all_leads_back a old left).0 x) y in
    let turned = (equivalent_run _ _ (all_passed (inverse_all a) b b' (inverse_all a') (merge_passes a b b' a' m)) left right).0 around in
    let cut = cut_run b' (inverse_all a') left right turned in
    (cut.0, cut.1, (inverse_all_leads_back a' right cut.0).1 cut.2)
