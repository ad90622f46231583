-- Successive catches that fit, and steps that keep the members of sets valid.
use Rattle.camp_catch.proofs.Words.{Bool, List, None, Option, Some, [], cond, false, refl, subst, sym, true, ◌++◌, ◌∷◌, ◌≡◌, same_Some, contains_key, empty, get, get-empty, get-insert, get-remove, insert, remove, eq_by_cmp, Files, applies_once, inverse_of-inverse_of, leads_back, key_total, Applies, inverse_of, key_cmp, Key, Named, passed, cut_run, joined_runs, row_passes, ◌~◌, MergesOne, AppliesAll, run_along, valid_by_adding_all, members_valid, AddsAll, AreValid, ContextedPatch, ContextedPatches, Valid, context_key, only, KeepsValid, Fits, IsSeenFrom, Becomes, joined_by, Catch, Plain, Conflictor}

pub plain_fits : (a : Named) (old new : Files) → AppliesAll (a ∷ []) old new → Fits (Plain a) old new
plain_fits a old new run = record { effect = run; seen = tt }

pub conflictor_fits : (k : Conflictor) (old new : Files) → AppliesAll k.effect old new → AreValid new k.conflicts → Valid new k.identity → Fits (Catch.Conflictor k) old new
conflictor_fits k old new run members identity = record { effect = run; seen = (members, identity) }

-- a conflictor moved in front of a step fits there, if it fits after the step
pub becomes_fits : (IsEffect : List Named → Type 0) (Member Identity : ContextedPatch → ContextedPatch → Type 0) (Step : Files → Files → Type 0) → KeepsValid Member Step → KeepsValid Identity Step → (j k : Conflictor) → Becomes IsEffect Member Identity j k → (old new behind : Files) → AppliesAll k.effect old new → Step new behind → IsSeenFrom behind (Catch.Conflictor j) → Fits (Catch.Conflictor k) old new
becomes_fits IsEffect Member Identity Step members identity j k w old new behind run step seen =
    conflictor_fits k old new run (members_valid Member Step members j.conflicts k.conflicts w.conflicts new behind step seen.0) (identity j.identity k.identity w.identity new behind step seen.1)

-- the same of a conflictor with a given effect, after a list was added
pub added_fits : (r s : List Named) (j k : Conflictor) → Becomes (λ t. t ≡ s) (AddsAll r) (AddsAll r) j k → (old new behind : Files) → AppliesAll s old new → AppliesAll r new behind → IsSeenFrom behind (Catch.Conflictor j) → Fits (Catch.Conflictor k) old new
added_fits r s j k w old new behind run step seen =
    becomes_fits (λ t. t ≡ s) (AddsAll r) (AddsAll r) (AppliesAll r) (valid_by_adding_all r) (valid_by_adding_all r) j k w old new behind (subst (λ t. AppliesAll t old new) (sym w.effect) run) step seen

-- two lists commute and lead to the same tree
pub places_change : (r s s' r' : List Named) → (r ++ s) ~ (s' ++ r') → (old between new : Files) → AppliesAll r old between → AppliesAll s between new → (other : Files) × AppliesAll s' old other × AppliesAll r' other new
places_change r s s' r' e old between new first second =
    cut_run s' r' old new (run_along (r ++ s) (s' ++ r') e old new (joined_runs r s old between new first second))

-- a list of one is its element
pub one_runs : (a : Named) (old new : Files) → Applies a.prim old new → AppliesAll (a ∷ []) old new
one_runs a old new applies = (new, applies, refl)

pub one_applies : (a : Named) (old new : Files) → AppliesAll (a ∷ []) old new → Applies a.prim old new
one_applies a old new run = subst (Applies a.prim old) (sym run.2) run.1

pub one_back : (a : Named) (old new : Files) → AppliesAll (a ∷ []) old new → Applies (inverse_of a).prim new old
one_back a old new run = leads_back a.prim old new (one_applies a old new run)

-- a primitive that merges cleanly with a list gives a square of trees
pub row_closes : (a : Named) (s s' : List Named) (a' : Named) → MergesOne a s s' a' → (old left right : Files) → AppliesAll (a ∷ []) old left → AppliesAll s old right → (new : Files) × AppliesAll s' left new × AppliesAll (a' ∷ []) right new
row_closes a s s' a' m old left right first second =
    let back = one_runs (inverse_of a) left old (one_back a old left first) in
    let order = passed (inverse_of a) s s' (inverse_of a') (row_passes a s s' a' m) in
    let runs = places_change (inverse_of a ∷ []) s s' (inverse_of a' ∷ []) order left old right back second in
    let beside = one_back (inverse_of a') runs.0 right runs.2 in
    (runs.0, runs.1, one_runs a' right runs.0 (subst (λ p. Applies p.prim right runs.0) (inverse_of-inverse_of a') beside))

-- a list leads to at most one tree
pub run_once : (s : List Named) (old new other : Files) → AppliesAll s old new → AppliesAll s old other → new ≡ other
run_once [] old new other v w = subst (λ t. new ≡ t) (sym w) v
run_once (p ∷ s) old new other v w =
    run_once s w.0 new other (subst (λ t. AppliesAll s t new) (applies_once p.prim old v.0 w.0 v.1 w.1) v.2) w.2

-- the entry at a key of a set that was changed at another key
at_key : (tree : Files) (other x : Option ContextedPatch) (same : Bool) → ((v : ContextedPatch) → other ≡ Some v → Valid tree v) → ((v : ContextedPatch) → x ≡ Some v → Valid tree v) → (w : ContextedPatch) → cond same other x ≡ Some w → Valid tree w
at_key tree other x true here there = here
at_key tree other x false here there = there

-- a set with one more member
pub inserted_valid : (tree : Files) (xs : ContextedPatches) (key : Key) (l : ContextedPatch) → AreValid tree xs → Valid tree l → AreValid tree (insert xs key l)
inserted_valid tree xs key l members valid q w is =
    at_key tree (Some l) (get xs q) (eq_by_cmp key_cmp q key) (λ v e. subst (Valid tree) (same_Some l v e) valid) (members q) w (subst (λ o. o ≡ Some w) (get-insert key_total xs key l q) is)

-- the set of one member
pub only_valid : (tree : Files) (l : ContextedPatch) → Valid tree l → AreValid tree (only l)
only_valid tree l valid = inserted_valid tree empty (context_key l) l (λ q w e. let is = subst (λ o. o ≡ Some w) (get-empty key_cmp q) e in cc) valid

-- a set to which a member was added
joined_valid : (tree : Files) (xs : ContextedPatches) (l : ContextedPatch) (there : Bool) → AreValid tree xs → Valid tree l → AreValid tree (cond there xs (insert xs (context_key l) l))
joined_valid tree xs l true members valid = members
joined_valid tree xs l false members valid = inserted_valid tree xs (context_key l) l members valid

-- a conflictor to which the conflict l was added
pub joined_fits : (k : Conflictor) (l : ContextedPatch) (old new : Files) → Fits (Catch.Conflictor k) old new → Valid new l → Fits (Catch.Conflictor (joined_by l k)) old new
joined_fits k l old new f valid =
    conflictor_fits (joined_by l k) old new f.effect (joined_valid new k.conflicts l (contains_key k.conflicts (context_key l)) f.seen.0 valid) f.seen.1

-- a set from which a member was removed
pub without_valid : (tree : Files) (xs : ContextedPatches) (key : Key) → AreValid tree xs → AreValid tree (remove xs key)
without_valid tree xs key members q w is =
    at_key tree None (get xs q) (eq_by_cmp key_cmp q key) (λ v e. cc) (members q) w (subst (λ o. o ≡ Some w) (get-remove key_total xs key q) is)
