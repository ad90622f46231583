-- Effects that apply where they are made, and the catches that they are of.
use Rattle.camp_branch.proofs.Words.{◌≡◌, ◌<◌, ◌+◌, ℕ, List, [], ◌∷◌, ◌++◌, drop, length, get_or, refl, sym, subst, Files, Applies, Named, AppliesAll, FitsAll, effect_of, Catch, run_once, stands_at, ◌≤◌, take, flat_map, ap, ◌∙◌, arith, take-append-drop, inverse_of, inverse_all, cut_run, joined_runs, runs_back}
use Rattle.camp_prim.proofs.Applied.{applies_once}
use Rattle.std.proofs.lemmas.Grind.{flat_map-append}
use Rattle.camp_prim.proofs.Inverses.{inverse_leads_back, leads_back}

-- if a list leads from a first tree to another, its rest leads there from the tree in between
abbrev pub RunsOn : List Named → Files → List Named → Files → Type 0
RunsOn s old rest tree = (aim : Files) → AppliesAll s old aim → AppliesAll rest tree aim

pub one_runs_on : (s : List Named) (i : ℕ) (p d : Named) (old tree next : Files) → RunsOn s old (drop i s) tree → i < length s → p ≡ get_or s i d → Applies p.prim tree next → RunsOn s old (drop (i + 1) s) next
one_runs_on s i p d old tree next on within is applies aim runs =
    let rest = subst (λ r. AppliesAll r tree aim) (stands_at s i d p within is) (on aim runs) in
    subst (λ t. AppliesAll (drop (i + 1) s) t aim) (applies_once p.prim tree rest.0 next rest.1 applies) rest.2

-- the same of catches
abbrev pub FitsOn : List Catch → Files → List Catch → Files → Type 0
FitsOn list old rest tree = (aim : Files) → FitsAll list old aim → FitsAll rest tree aim

pub next_effect : (list : List Catch) (i : ℕ) (k d : Catch) (effect : List Named) (old tree aim : Files) → FitsOn list old (drop i list) tree → i < length list → k ≡ get_or list i d → effect ≡ effect_of k → FitsAll list old aim → (between : Files) × AppliesAll effect tree between
next_effect list i k d effect old tree aim on within is of fits =
    let rest = subst (λ r. FitsAll r tree aim) (stands_at list i d k within is) (on aim fits) in
    (rest.0, subst (λ s. AppliesAll s tree rest.0) (sym of) rest.1.effect)

pub one_fits_on : (list : List Catch) (i : ℕ) (k d : Catch) (effect : List Named) (old tree next : Files) → FitsOn list old (drop i list) tree → i < length list → k ≡ get_or list i d → effect ≡ effect_of k → AppliesAll effect tree next → FitsOn list old (drop (i + 1) list) next
one_fits_on list i k d effect old tree next on within is of runs aim fits =
    let rest = subst (λ r. FitsAll r tree aim) (stands_at list i d k within is) (on aim fits) in
    subst (λ t. FitsAll (drop (i + 1) list) t aim) (run_once (effect_of k) tree rest.0 next rest.1.effect (subst (λ s. AppliesAll s tree next) of runs)) rest.2

-- the second part of catches that fit, if the tree after the first part is known
pub second_fits : (s t : List Catch) (old new : Files) → FitsAll (s ++ t) old new → (between : Files) × FitsAll s old between × FitsAll t between new
second_fits [] t old new w = (old, refl, w)
second_fits (k ∷ s) t old new w =
    let rest = second_fits s t w.0 new w.2 in (rest.0, (w.0, w.1, rest.1), rest.2)

-- a list leads to a tree from one tree at most
pub one_start : (s : List Named) (old other new : Files) → AppliesAll s old new → AppliesAll s other new → old ≡ other
one_start s old other new v w = run_once (inverse_all s) new old other (runs_back s old new v) (runs_back s other new w)

-- the first of two lists leads to the tree from which the second leads on
pub first_leads : (s t : List Named) (old between new : Files) → AppliesAll (s ++ t) old new → AppliesAll t between new → AppliesAll s old between
first_leads s t old between new runs second =
    let cut = cut_run s t old new runs in
    subst (AppliesAll s old) (one_start t cut.0 between new cut.2 second) cut.1

-- the last primitive that is not yet inverted led to the tree
pub goes_back : (s : List Named) (i at : ℕ) (p d : Named) (before tree new : Files) → i + 1 ≡ at → at ≤ length s → p ≡ get_or s i d → AppliesAll s before new → AppliesAll (drop at s) tree new → (next : Files) × Applies (inverse_of p).prim tree next
goes_back s i at p d before tree new next within is runs left =
    let rest = subst (λ n. AppliesAll (drop n s) tree new) (sym next) left in
    let whole : s ≡ take i s ++ p ∷ drop (i + 1) s = sym (take-append-drop i s) ∙ ap (λ t. take i s ++ t) (stands_at s i d p (omega (next, arith)) is) in
    let cut = cut_run (take i s) (p ∷ drop (i + 1) s) before new (subst (λ t. AppliesAll t before new) whole runs) in
    let one = first_leads (p ∷ []) (drop (i + 1) s) cut.0 tree new cut.2 rest in
    (cut.0, leads_back p.prim cut.0 tree (subst (Applies p.prim cut.0) (sym one.2) one.1))

-- and is inverted
pub one_back : (s : List Named) (i at : ℕ) (p d : Named) (tree next new : Files) → i + 1 ≡ at → at ≤ length s → p ≡ get_or s i d → AppliesAll (drop at s) tree new → Applies (inverse_of p).prim tree next → AppliesAll (drop i s) next new
one_back s i at p d tree next new follows within is left back =
    let rest = subst (λ n. AppliesAll (drop n s) tree new) (sym follows) left in
    subst (λ t. AppliesAll t next new) (sym (stands_at s i d p (omega (follows, arith)) is)) (tree, (inverse_leads_back p.prim next tree).1 back, rest)

-- the effects of catches
abbrev pub effects_of : List Catch → List Named
effects_of list = flat_map effect_of list

-- the last effect that is not yet inverted led to the tree
pub effect_goes_back : (list : List Catch) (i at : ℕ) (k d : Catch) (effect : List Named) (before tree new : Files) → i + 1 ≡ at → at ≤ length list → k ≡ get_or list i d → effect ≡ effect_of k → AppliesAll (effects_of list) before new → AppliesAll (effects_of (drop at list)) tree new → (next : Files) × AppliesAll effect next tree
effect_goes_back list i at k d effect before tree new next within is of runs left =
    let rest = subst (λ n. AppliesAll (effects_of (drop n list)) tree new) (sym next) left in
    let whole : list ≡ take i list ++ k ∷ drop (i + 1) list = sym (take-append-drop i list) ∙ ap (λ t. take i list ++ t) (stands_at list i d k (omega (next, arith)) is) in
    let parts : effects_of list ≡ effects_of (take i list) ++ (effect_of k ++ effects_of (drop (i + 1) list)) = ap effects_of whole ∙ flat_map-append effect_of (take i list) (k ∷ drop (i + 1) list) in
    let cut = cut_run (effects_of (take i list)) (effect_of k ++ effects_of (drop (i + 1) list)) before new (subst (λ s. AppliesAll s before new) parts runs) in
    (cut.0, subst (λ s. AppliesAll s cut.0 tree) (sym of) (first_leads (effect_of k) (effects_of (drop (i + 1) list)) cut.0 tree new cut.2 rest))

pub one_effect_back : (list : List Catch) (i at : ℕ) (k d : Catch) (effect : List Named) (tree next new : Files) → i + 1 ≡ at → at ≤ length list → k ≡ get_or list i d → effect ≡ effect_of k → AppliesAll (effects_of (drop at list)) tree new → AppliesAll effect next tree → AppliesAll (effects_of (drop i list)) next new
one_effect_back list i at k d effect tree next new follows within is of left back =
    let rest = subst (λ n. AppliesAll (effects_of (drop n list)) tree new) (sym follows) left in
    subst (λ l. AppliesAll (effects_of l) next new) (sym (stands_at list i d k (omega (follows, arith)) is)) (joined_runs (effect_of k) (effects_of (drop (i + 1) list)) next tree new (subst (λ s. AppliesAll s next tree) of back) rest)
