-- The changes of a side apply to the tree of the branch.
use Rattle.camp_questions.proofs.Words.{◌≡◌, ℕ, suc, Bool, true, false, cond, List, [], ◌∷◌, map, bytes_eq, Some, refl, sym, ◌∙◌, subst, none-some, same_Some, eq_by_cmp, empty, get, flat_map, AllByRecursion, Files, FitsAll, LeadsTo, effect_of, Catch, Key, key_cmp, key_total, Named, entries, entries_sorted, get-entries, values, MatchOption, slice_get, all_filter, IsSeenFrom, Plain, found_at, AddsAll, AreValid, ContextedPatch, ContextedPatches, Valid, context_key, whole, joined_runs, runs_back, AppliesAll, inverse_all, AppliesEach, SidesApply, changes_in, AreSeen, AppendsEachNew, AppendsUnless, IsSeen, IsSideAmong, HaveNoContexted, has_key, labels_of_patch, contexted_in, tree_of_effects}
use Rattle.camp_branch.proofs.EffectSteps.{second_fits}
use Rattle.camp_ctx.proofs.AddValid.{valid_by_adding_all}

told_valid_at : (tree : Files) (b : Bool) (identity x : ContextedPatch) (members : ContextedPatches) (key : Key) → AreValid tree members → Valid tree identity → cond b (Some identity) (get members key) ≡ Some x → Valid tree x
told_valid_at tree true identity x members key all one is = subst (Valid tree) (same_Some identity x is) one
told_valid_at tree false identity x members key all one is = all key x is

-- what a catch says of a label is valid in the tree after it
told_valid : (tree : Files) (k : Catch) (key : Key) (x : ContextedPatch) → IsSeenFrom tree k → contexted_in k key ≡ Some x → Valid tree x
told_valid tree (Plain a) key x seen is = absurd (none-some x is)
told_valid tree (Catch.Conflictor k) key x seen is =
    told_valid_at tree (eq_by_cmp key_cmp key (context_key k.identity)) k.identity x k.conflicts key seen.0 seen.1 is

valid_behind : (before behind : List Catch) (k : Catch) (tree : Files) (key : Key) (x seen : ContextedPatch) → contexted_in k key ≡ Some x → AddsAll (inverse_all (flat_map effect_of behind)) x seen → (between : Files) × FitsAll before empty between × FitsAll (k ∷ behind) between tree → Valid tree seen
valid_behind before behind k tree key x seen told added (between, first, rest) =
    let runs = tree_of_effects behind rest.0 tree rest.2 in
    valid_by_adding_all (inverse_all (flat_map effect_of behind)) x seen added tree rest.0 (runs_back (flat_map effect_of behind) rest.0 tree runs) (told_valid rest.0 k key x rest.1.seen told)

-- a label in conflict as seen from the end of a branch is valid in its tree
seen_valid : (branch : List Catch) (tree : Files) (key : Key) (x : ContextedPatch) → LeadsTo branch tree → IsSeen branch key x → Valid tree x
seen_valid branch tree key x leads seen =
    valid_behind seen.before seen.behind seen.k tree key seen.x x seen.told seen.added (second_fits seen.before (seen.k ∷ seen.behind) empty tree (subst (λ l. FitsAll l empty tree) seen.parts leads))

-- all of them are
pub all_valid : (branch : List Catch) (tree : Files) (seen : ContextedPatches) → LeadsTo branch tree → AreSeen branch seen → AreValid tree seen
all_valid branch tree seen leads are key x is =
    seen_valid branch tree key x leads (subst (λ o. MatchOption o (HaveNoContexted branch key) (IsSeen branch key)) is (are key))

by_index : (P : ContextedPatch → Type 0) (es : List (Key × ContextedPatch)) → ((i : ℕ) (k : Key) (x : ContextedPatch) → slice_get es i ≡ Some (k, x) → P x) → AllByRecursion P (map (λ (e : Key × ContextedPatch). e.1) es)
by_index P [] each = tt
by_index P (e ∷ es) each = (each 0 e.0 e.1 refl, by_index P es (λ i k x is. each (suc i) k x is))

members_valid : (tree : Files) (xs : ContextedPatches) → AreValid tree xs → AllByRecursion (Valid tree) (values xs)
members_valid tree xs all =
    by_index (Valid tree) (entries xs) (λ i k x is. all k x (get-entries xs k ∙ found_at key_cmp key_total (entries xs) i k x is (entries_sorted xs)))

-- changes that apply to a tree
abbrev Apply : Files → List Named → Type 0
Apply tree changes = (next : Files) × AppliesAll changes tree next

one_applies : (tree : Files) (changes : List Named) (x : ContextedPatch) (next : List Named) (b : Bool) → Valid tree x → Apply tree changes
    → AppendsUnless b changes x next → Apply tree next
one_applies tree changes x next true valid applies is = subst (Apply tree) (sym is) applies
one_applies tree changes x next false valid applies (y, adds, is) =
    let valid_then = valid_by_adding_all (inverse_all changes) x y adds applies.0 tree (runs_back changes tree applies.0 applies.1) valid in
    subst (Apply tree) (sym is) (valid_then.0, joined_runs changes (whole y) tree applies.0 valid_then.0 applies.1 valid_then.1)

all_apply : (tree : Files) (changes : List Named) (xs : List ContextedPatch) (side : List Named) → AllByRecursion (Valid tree) xs → Apply tree changes → AppendsEachNew changes xs side → Apply tree side
all_apply tree changes [] side all applies is = subst (Apply tree) (sym is) applies
all_apply tree changes (x ∷ xs) side all applies (next, one, more) =
    all_apply tree next xs side all.1 (one_applies tree changes x next (has_key changes (context_key x)) all.0 applies one) more

-- the side of a patch among labels that are valid in a tree applies to it
pub side_applies : (tree : Files) (seen : ContextedPatches) (name : List ℕ) (side : List Named) → AreValid tree seen → IsSideAmong seen name side → (next : Files) × AppliesAll side tree next
side_applies tree seen name side valid is =
    let all = all_filter (λ (x : ContextedPatch). x.patch.name) (λ (x : ContextedPatch). bytes_eq name x.patch.name) (Valid tree) (values seen) (members_valid tree seen valid) in
    all_apply tree [] (labels_of_patch name seen) side all (tree, refl) is

each_applies : (side : List Named) (old new : Files) → AppliesAll side old new → AppliesEach (changes_in side) old new
each_applies [] old new is = is
each_applies (p ∷ side) old new w = (w.0, w.1, each_applies side w.0 new w.2)

pub sides_apply : SidesApply
sides_apply branch tree name side leads (seen, are, is) =
    let applies = side_applies tree seen name side (all_valid branch tree seen leads are) is in
    (applies.0, each_applies side tree applies.0 applies.1)
