-- Commuting keeps effects: each case gives a path through trees.
use Rattle.camp_catch.proofs.Words.{List, [], inl, inr, refl, subst, sym, ◌++◌, ◌∷◌, ◌≡◌, append_assoc, remove, Files, applies_once, Applies, inverse_of, label_of, Named, after_one, all_passed, before, behind, equal_are, fronted, joined, ordered, passed, split, swapped, runs_back, through, ◌~◌, Norm, AppliesAll, inverse_all, run_along, valid_by_adding, valid_by_adding_all, valid_by_passing, valid_by_passing_all, AddsToContext, AddsAll, PassesBy, PassesByAll, ContextedPatches, Valid, bare, context_key, patch_key, Fits, BothPlain, ConflictDissolves, ConflictorPastPlain, EffectsPass, OneOfSeveralConflicts, OnlyConflictGoes, PlainLeavesTheSet, PlainPastConflictor, TwoConflictorsApart, labels_undone, against, in_conflict_with, with_effect, without, CommuteKeepsEffects, Catch, Plain, Conflictor}
use Rattle.camp_catch.proofs.Fitting.{plain_fits, conflictor_fits, becomes_fits, added_fits, joined_fits, places_change, one_runs, one_applies, one_back, only_valid, without_valid}

-- one case keeps effects
abbrev KeepsEffects : Catch → Catch → (Catch → Catch → Type 0) → Type 0
KeepsEffects j k Case =
    (k' j' : Catch) → Case k' j' → (old between new : Files) → Fits j old between → Fits k between new → (other : Files) × Fits k' old other × Fits j' other new

both_plain : (a b : Named) → KeepsEffects (Plain a) (Plain b) (BothPlain a b)
both_plain a b k' j' w old between new f g =
    let runs = places_change (a ∷ []) (b ∷ []) (w.b' ∷ []) (w.a' ∷ []) (swapped a b w.b' w.a' [] w.swap) old between new f.effect g.effect in
    rw (w.second, w.first) (runs.0, plain_fits w.b' old runs.0 runs.1, plain_fits w.a' runs.0 new runs.2)

plain_past_conflictor : (a : Named) (k : Conflictor) → KeepsEffects (Plain a) (Catch.Conflictor k) (PlainPastConflictor a k)
plain_past_conflictor a k k' j' w old between new f g =
    let s' = w.moved.effect in
    let order : (a ∷ k.effect) ~ (s' ++ w.a' ∷ []) =
    through (passed a k.effect w.passed w.a' w.passes) (before w.passed s' (w.a' ∷ []) (ordered w.passed s' w.becomes.effect)) in
    let runs = places_change (a ∷ []) k.effect s' (w.a' ∷ []) order old between new f.effect g.effect in
    let moved = becomes_fits (Norm w.passed) (AddsToContext w.a') (PassesBy w.a') (Applies w.a'.prim) (valid_by_adding w.a') (valid_by_passing w.a') k w.moved w.becomes old runs.0 new runs.1 (one_applies w.a' runs.0 new runs.2) g.seen in
    rw (w.second, w.first) (runs.0, moved, plain_fits w.a' runs.0 new runs.2)

conflictor_past_plain : (j : Conflictor) (b : Named) → KeepsEffects (Catch.Conflictor j) (Plain b) (ConflictorPastPlain j b)
conflictor_past_plain j b k' j' w old between new f g =
    let r' = w.moved.effect in
    let back = inverse_of b in
    let order : (j.effect ++ b ∷ []) ~ (w.b' ∷ r') =
    through (all_passed j.effect (b ∷ []) (w.b' ∷ []) w.left w.passes) (after_one w.b' w.left r' (ordered w.left r' w.becomes.effect)) in
    let runs = places_change j.effect (b ∷ []) (w.b' ∷ []) r' order old between new f.effect g.effect in
    let moved = becomes_fits (Norm w.left) (AddsToContext back) (PassesBy back) (Applies back.prim) (valid_by_adding back) (valid_by_passing back) j w.moved w.becomes runs.0 new between runs.2 (one_back b between new g.effect) f.seen in
    rw (w.second, w.first) (runs.0, plain_fits w.b' old runs.0 runs.1, moved)

effects_pass : (r s : List Named) (ys : ContextedPatches) (effect rr' : List Named) → EffectsPass r s ys effect rr' → (r ++ s) ~ (effect ++ rr')
effects_pass r s ys effect rr' w =
    let first : (r ++ s) ~ ((w.common ++ w.rr) ++ s) = before r (w.common ++ w.rr) s (split (labels_undone r ys) r w.common w.rr w.split) in
    let pass : (w.rr ++ s) ~ (w.s' ++ rr') =
    through (all_passed w.rr s w.passed w.left w.passes) (joined w.passed w.s' w.left rr' (ordered w.passed w.s' w.second) (ordered w.left rr' w.first)) in
    let second : (w.common ++ (w.rr ++ s)) ~ (w.common ++ (w.s' ++ rr')) = behind w.common (w.rr ++ s) (w.s' ++ rr') pass in
    let last : ((w.common ++ w.s') ++ rr') ~ (effect ++ rr') =
    before (w.common ++ w.s') effect rr' (ordered (w.common ++ w.s') effect w.whole) in
    through first (through (equal_are _ _ (append_assoc w.common w.rr s)) (through second (through (equal_are _ _ (sym (append_assoc w.common w.s' rr'))) last)))

two_conflictors_apart : (j k : Conflictor) → KeepsEffects (Catch.Conflictor j) (Catch.Conflictor k) (TwoConflictorsApart j k)
two_conflictors_apart j k k' j' w old between new f g =
    let runs = places_change j.effect k.effect w.effect w.rr' (effects_pass j.effect k.effect k.conflicts w.effect w.rr' w.effects) old between new f.effect g.effect in
    let moved = becomes_fits (λ t. t ≡ w.effect) (AddsAll w.rr') (PassesByAll w.rr') (AppliesAll w.rr') (valid_by_adding_all w.rr') (valid_by_passing_all w.rr') k w.moved w.becomes old runs.0 new (subst (λ t. AppliesAll t old runs.0) (sym w.becomes.effect) runs.1) runs.2 g.seen in
    let own = added_fits (inverse_all k.effect) w.rr' j w.own w.own_becomes runs.0 new between runs.2 (runs_back k.effect between new g.effect) f.seen in
    rw (w.second, w.first) (runs.0, moved, own)

one_of_several_conflicts : (j k : Conflictor) → KeepsEffects (Catch.Conflictor j) (Catch.Conflictor k) (OneOfSeveralConflicts j k)
one_of_several_conflicts j k k' j' w old between new f g =
    let key = context_key j.identity in
    let runs = places_change j.effect k.effect w.effect w.rr' (effects_pass j.effect k.effect (remove k.conflicts key) w.effect w.rr' w.effects) old between new f.effect g.effect in
    let moved = added_fits w.rr' w.effect (without key k) w.moved w.becomes old runs.0 new runs.1 runs.2 (without_valid new k.conflicts key g.seen.0, g.seen.1) in
    let own = added_fits (inverse_all k.effect) w.rr' j w.own w.own_becomes runs.0 new between runs.2 (runs_back k.effect between new g.effect) f.seen in
    rw (w.second, w.first) (runs.0, moved, joined_fits w.own k.identity runs.0 new own g.seen.1)

-- the inverse of a leads back to where a began
back_to_old : (a : Named) (old between new : Files) → AppliesAll (a ∷ []) old between → Applies (inverse_of a).prim between new → new ≡ old
back_to_old a old between new first back =
    applies_once (inverse_of a).prim between new old back (one_back a old between first)

conflict_dissolves : (a : Named) (k : Conflictor) → KeepsEffects (Plain a) (Catch.Conflictor k) (ConflictDissolves a k)
conflict_dissolves a k k' j' w old between new f g =
    let h : Fits (Catch.Conflictor (against a w.q)) between new = subst (λ c. Fits (Catch.Conflictor c) between new) w.is g in
    let same : new ≡ old = back_to_old a old between new f.effect (one_applies (inverse_of a) between new h.effect) in
    let valid : Valid new (bare w.q) = h.seen.1 in
    let second : AppliesAll (w.q ∷ []) old valid.0 = subst (λ t. AppliesAll (w.q ∷ []) t valid.0) same valid.1 in
    let back : AppliesAll (inverse_of w.q ∷ []) valid.0 new = one_runs (inverse_of w.q) valid.0 new (one_back w.q new valid.0 valid.1) in
    let own : Valid new (bare a) = (between, subst (λ t. AppliesAll (a ∷ []) t between) (sym same) f.effect) in
    rw (w.second, w.first) (valid.0, plain_fits w.q old valid.0 second, conflictor_fits (against w.q a) valid.0 new back (only_valid new (bare w.q) valid) own)

plain_leaves_the_set : (a : Named) (k : Conflictor) → KeepsEffects (Plain a) (Catch.Conflictor k) (PlainLeavesTheSet a k)
plain_leaves_the_set a k k' j' w old between new f g =
    let key = patch_key a in
    let left : Conflictor = with_effect w.s' (without key k) in
    let order : k.effect ~ (inverse_of a ∷ w.s') =
    through (fronted (label_of (inverse_of a)) k.effect (inverse_of a) w.rest w.front) (after_one (inverse_of a) w.rest w.s' (ordered w.rest w.s' w.effect)) in
    let run = run_along k.effect (inverse_of a ∷ w.s') order between new g.effect in
    let rest : AppliesAll w.s' old new = subst (λ t. AppliesAll w.s' t new) (back_to_old a old between run.0 f.effect run.1) run.2 in
    rw (w.second, w.first) (new, conflictor_fits left old new rest (without_valid new k.conflicts key g.seen.0) g.seen.1, conflictor_fits (in_conflict_with k.identity w.z) new new refl (only_valid new k.identity g.seen.1) (g.seen.0 key w.z w.member))

only_conflict_goes : (j k : Conflictor) → KeepsEffects (Catch.Conflictor j) (Catch.Conflictor k) (OnlyConflictGoes j k)
only_conflict_goes j k k' j' w old between new f g =
    let still : new ≡ between = subst (λ t. AppliesAll t between new) w.no_effect g.effect in
    let h : Fits (Catch.Conflictor j) old new = subst (Fits (Catch.Conflictor j) old) (sym still) f in
    let valid : Valid old (bare w.a) = valid_by_adding_all j.effect k.identity (bare w.a) w.becomes old new h.effect g.seen.1 in
    let run : AppliesAll (inverse_of w.a ∷ j.effect) valid.0 new = (old, one_back w.a old valid.0 valid.1, h.effect) in
    let back = run_along (inverse_of w.a ∷ j.effect) w.effect (ordered (inverse_of w.a ∷ j.effect) w.effect w.joined) valid.0 new run in
    rw (w.second, w.first) (valid.0, plain_fits w.a old valid.0 valid.1, joined_fits (with_effect w.effect j) k.identity valid.0 new (conflictor_fits (with_effect w.effect j) valid.0 new back h.seen.0 h.seen.1) g.seen.1)

pub commute_keeps_effects : CommuteKeepsEffects
commute_keeps_effects (Plain a) (Plain b) k' j' w = both_plain a b k' j' w
commute_keeps_effects (Plain a) (Catch.Conflictor k) k' j' (inl w) = plain_past_conflictor a k k' j' w
commute_keeps_effects (Plain a) (Catch.Conflictor k) k' j' (inr (inl w)) = conflict_dissolves a k k' j' w
commute_keeps_effects (Plain a) (Catch.Conflictor k) k' j' (inr (inr w)) = plain_leaves_the_set a k k' j' w
commute_keeps_effects (Catch.Conflictor j) (Plain b) k' j' w = conflictor_past_plain j b k' j' w
commute_keeps_effects (Catch.Conflictor j) (Catch.Conflictor k) k' j' (inl w) = two_conflictors_apart j k k' j' w
commute_keeps_effects (Catch.Conflictor j) (Catch.Conflictor k) k' j' (inr (inl w)) = only_conflict_goes j k k' j' w
commute_keeps_effects (Catch.Conflictor j) (Catch.Conflictor k) k' j' (inr (inr w)) = one_of_several_conflicts j k k' j' w
