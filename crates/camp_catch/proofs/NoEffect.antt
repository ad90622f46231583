-- Two conflictors without an effect commute unchanged, except for their sets.
use Rattle.std.proofs.Common.{◌≡◌, ◌≢◌, ◌≤◌, ◌∙◌, ◌∷◌, ◌++◌, All, List, [], None, Some, ap, append-nil, inl, inr, refl, subst, sym}
use Rattle.std.specs.FinMap.{get, len, remove}
use Rattle.std.specs.List.{fold}
use Rattle.std.proofs.lemmas.Grind.{fold-append}
use Rattle.camp_prim.specs.declared.named.Named.{Named}
use Rattle.camp_seq.specs.Running.{inverse_all}
use Rattle.camp_ctx.specs.Adding.{AddsAll}
use Rattle.camp_ctx.specs.Contexts.{ContextedPatch, ContextedPatches, context_key, patch_key, with_member}
use Rattle.camp_ctx.proofs.SetChanges.{unchanged}
use Rattle.camp_catch.specs.Commuting.{CommuteCatch, EffectsPass, OneOfSeveralConflicts, TwoConflictorsApart}
use Rattle.camp_catch.specs.Conflictors.{Becomes, joined_by, with_conflicts, without}
use Rattle.camp_catch.specs.Inside.InPlace.{with_gained}
use Rattle.camp_catch.specs.Inside.QuickChecks.{CommutesGaining}
use Rattle.camp_catch.specs.declared.catches.Catch.{Catch}
use Rattle.camp_catch.specs.declared.catches.Conflictor.{Conflictor}

-- two empty effects commute
none_pass : (ys : ContextedPatches) → EffectsPass [] [] ys [] []
none_pass ys = record {
  common = [];
  rr = [];
  split = record { named = []; others = []; parts = (refl, refl); first = refl; rest = refl };
  passed = [];
  left = [];
  passes = (refl, refl);
  s' = [];
  second = refl;
  first = refl;
  whole = refl;
}

-- nothing is added to a conflictor without an effect
stays : (k : Conflictor) → k.effect ≡ [] → Becomes (λ t. t ≡ []) (AddsAll []) (AddsAll []) k k
stays k none = record { effect = none; conflicts = unchanged k.conflicts; identity = refl }

stays_behind : (j : Conflictor) (s : List Named) → j.effect ≡ [] → s ≡ [] → Becomes (λ t. t ≡ []) (AddsAll (inverse_all s)) (AddsAll (inverse_all s)) j j
stays_behind j s none also =
    subst (λ r. Becomes (λ t. t ≡ []) (AddsAll (inverse_all r)) (AddsAll (inverse_all r)) j j) (sym also) (stays j none)

apart_without_effect : (j k : Conflictor) → j.effect ≡ [] → k.effect ≡ [] → get k.conflicts (context_key j.identity) ≡ None → All (λ p. patch_key p ≢ context_key j.identity) k.identity.context → TwoConflictorsApart j k (Catch.Conflictor k) (Catch.Conflictor j)
apart_without_effect j k none also apart unseen = record {
  apart = apart;
  unseen = unseen;
  effect = [];
  rr' = [];
  effects = subst (λ r. EffectsPass r k.effect k.conflicts [] []) (sym none) (subst (λ s. EffectsPass [] s k.conflicts [] []) (sym also) (none_pass k.conflicts));
  moved = k;
  becomes = stays k also;
  own = j;
  own_becomes = stays_behind j k.effect none also;
  second = refl;
  first = refl;
}

-- the first is removed from the set of the second, which is added to the set of the first
leaves_without_effect : (j k : Conflictor) (z : ContextedPatch) → get k.conflicts (context_key j.identity) ≡ Some z → 2 ≤ len k.conflicts → j.effect ≡ [] → k.effect ≡ [] → OneOfSeveralConflicts j k (Catch.Conflictor (without (context_key j.identity) k)) (Catch.Conflictor (joined_by k.identity j))
leaves_without_effect j k z member several none also =
    let zs = remove k.conflicts (context_key j.identity) in record {
      z = z;
      member = member;
      several = several;
      effect = [];
      rr' = [];
      effects = subst (λ r. EffectsPass r k.effect zs [] []) (sym none) (subst (λ s. EffectsPass [] s zs [] []) (sym also) (none_pass zs));
      moved = without (context_key j.identity) k;
      becomes = record { effect = also; conflicts = unchanged zs; identity = refl };
      own = j;
      own_becomes = stays_behind j k.effect none also;
      second = refl;
      first = refl;
    }

-- the same whatever the first has gained
module _ (j k : Conflictor) (none : j.effect ≡ []) (also : k.effect ≡ []) where
  pub passes_aside : get k.conflicts (context_key j.identity) ≡ None → All (λ p. patch_key p ≢ context_key j.identity) k.identity.context → CommutesGaining (Catch.Conflictor j) (Catch.Conflictor k) (Catch.Conflictor k) []
  passes_aside apart unseen before =
      let first = with_conflicts (fold with_member j.conflicts before) j in
      subst (λ gained. CommuteCatch (Catch.Conflictor first) (Catch.Conflictor k) (Catch.Conflictor k) (with_gained gained (Catch.Conflictor j))) (sym (append-nil before)) (inl (apart_without_effect first k none also apart unseen))

  pub passes_out : (z : ContextedPatch) → get k.conflicts (context_key j.identity) ≡ Some z → 2 ≤ len k.conflicts → (l : ContextedPatch) → l ≡ k.identity → CommutesGaining (Catch.Conflictor j) (Catch.Conflictor k) (Catch.Conflictor (without (context_key j.identity) k)) (l ∷ [])
  passes_out z member several l is before =
      let first = with_conflicts (fold with_member j.conflicts before) j in
      let gains : Catch.Conflictor (joined_by k.identity first) ≡ with_gained (before ++ l ∷ []) (Catch.Conflictor j) =
      ap (λ m. Catch.Conflictor (joined_by m first)) (sym is) ∙ ap (λ zs. Catch.Conflictor (with_conflicts zs j)) (sym (fold-append with_member j.conflicts before (l ∷ []))) in
      subst (CommuteCatch (Catch.Conflictor first) (Catch.Conflictor k) (Catch.Conflictor (without (context_key j.identity) k))) gains (inr (inr (leaves_without_effect first k z member several none also)))
