-- What two conflictors without an effect gain from each other.
use Rattle.std.proofs.Common.{◌≡◌, ◌∙◌, ◌↔◌, Bool, IfOk, IsTrue, Result, List, [], ◌∷◌, ◌++◌, append-nil, false, inl, inr, true, refl, sym, ap, subst}
use Rattle.camp_base.specs.Answers.{Changes}
use Rattle.std.specs.List.{fold}
use Rattle.std.proofs.lemmas.Grind.{fold-append}
use Rattle.camp_seq.specs.Running.{inverse_all}
use Rattle.camp_ctx.specs.Adding.{AddsAll}
use Rattle.camp_ctx.specs.Conflicts.{Conflict}
use Rattle.camp_ctx.specs.Contexts.{ContextedPatch, ContextedPatches, with_member}
use Rattle.camp_ctx.proofs.SetChanges.{unchanged}
use Rattle.camp_catch.specs.Conflictors.{Becomes, joined_by, with_conflicts}
use Rattle.camp_catch.specs.Inside.InPlace.{CatchesCommuteInPlace, MergesInto, MergesInPlace, with_gained}
use Rattle.camp_catch.specs.Inside.QuickChecks.{MergesGaining, CommutesGaining}
use Rattle.camp_catch.specs.Inside.TwoConflictors.{EffectsMerge, GainEachOther, DecidesConflict}
use Rattle.camp_catch.specs.Merging.{TwoConflictors}
use Rattle.camp_catch.specs.Catches.{catch_key}
use Rattle.camp_catch.specs.declared.catches.Catch.{Catch}
use Rattle.camp_catch.specs.declared.catches.Catch.TheVariants.{Plain}
use Rattle.camp_catch.specs.declared.catches.Conflictor.{Conflictor}
use Rattle.camp_catch.proofs.MergeSteps.{two_from}

-- two empty effects merge
none_merge : EffectsMerge [] [] [] []
none_merge = record {
  merged = [];
  left = [];
  merge = record {
    common = [];
    s1 = [];
    t1 = [];
    first = record { named = []; others = []; parts = (refl, refl); first = refl; rest = refl };
    second = record { named = []; others = []; parts = (refl, refl); first = refl; rest = refl };
    merge = (refl, refl);
  };
  effect = refl;
  own_effect = refl;
}

module _ (j k : Conflictor) (none : j.effect ≡ []) (also : k.effect ≡ []) where
  -- the same whatever their sets are
  module _ (xs ys : ContextedPatches) (found : Bool) (is : IsTrue found ↔ Conflict j.identity k.identity) where
    tells : DecidesConflict (with_conflicts xs j) (with_conflicts ys k) found
    tells = record {
      x = j.identity;
      y = k.identity;
      own_sees = subst (λ s. AddsAll s j.identity j.identity) (sym none) refl;
      sees = subst (λ s. AddsAll s k.identity k.identity) (sym also) refl;
      tells = is;
    }

    effects : EffectsMerge j.effect k.effect [] []
    effects = subst (λ r. EffectsMerge r k.effect [] []) (sym none) (subst (λ s. EffectsMerge [] s [] []) (sym also) none_merge)

    stays : Becomes (λ t. t ≡ []) (AddsAll []) (AddsAll []) (with_conflicts ys k) (with_conflicts ys k)
    stays = record { effect = also; conflicts = unchanged ys; identity = refl }

    own_stays : Becomes (λ t. t ≡ []) (AddsAll (inverse_all k.effect)) (AddsAll (inverse_all k.effect)) (with_conflicts xs j) (with_conflicts xs j)
    own_stays = subst (λ s. Becomes (λ t. t ≡ []) (AddsAll (inverse_all s)) (AddsAll (inverse_all s)) (with_conflicts xs j) (with_conflicts xs j)) (sym also) (record { effect = none; conflicts = unchanged xs; identity = refl })

    merge_by : (k' j' : Catch) → GainEachOther found (with_conflicts ys k) (with_conflicts xs j) k' j' → TwoConflictors (with_conflicts xs j) (with_conflicts ys k) k' j'
    merge_by k' j' each =
        two_from (with_conflicts xs j) (with_conflicts ys k) [] [] found (with_conflicts ys k) (with_conflicts xs j) k' j' effects tells stays own_stays each

  -- if they do not conflict, neither gains
  pub none_gains : ¬ (Conflict j.identity k.identity) → MergesGaining (Catch.Conflictor j) (Catch.Conflictor k) [] []
  none_gains apart before beside =
      let xs = fold with_member j.conflicts before in
      let ys = fold with_member k.conflicts beside in
      let never : ¬ (IsTrue false) = λ yes. cc in
      merge_by xs ys false (λ yes. absurd (never yes), λ found. absurd (apart found)) _ _ (record {
        joined = with_conflicts ys k;
        own_joined = with_conflicts xs j;
        joins = inr (never, refl);
        own_joins = inr (never, refl);
        after = ap (λ zs. Catch.Conflictor (with_conflicts zs k)) (fold-append with_member k.conflicts beside []);
        beside = ap (λ zs. Catch.Conflictor (with_conflicts zs j)) (fold-append with_member j.conflicts before []);
      })

  -- if they do, each gains the other's identity
  pub each_gains : Conflict j.identity k.identity → (l i : ContextedPatch) → l ≡ j.identity → i ≡ k.identity → MergesGaining (Catch.Conflictor j) (Catch.Conflictor k) (l ∷ []) (i ∷ [])
  each_gains conflict l i first second before beside =
      let xs = fold with_member j.conflicts before in
      let ys = fold with_member k.conflicts beside in
      merge_by xs ys true (λ yes. conflict, λ found. refl) _ _ (record {
        joined = joined_by l (with_conflicts ys k);
        own_joined = joined_by i (with_conflicts xs j);
        joins = inl (refl, ap (λ m. joined_by m (with_conflicts ys k)) first);
        own_joins = inl (refl, ap (λ m. joined_by m (with_conflicts xs j)) second);
        after = ap (λ zs. Catch.Conflictor (with_conflicts zs k)) (fold-append with_member k.conflicts beside (l ∷ []));
        beside = ap (λ zs. Catch.Conflictor (with_conflicts zs j)) (fold-append with_member j.conflicts before (i ∷ []));
      })

-- two catches together with the conflicts that they have gained
pub met : (j k j-now k-now : Catch) (before beside these those more most : List ContextedPatch) → MergesGaining j k these those → more ≡ before ++ those → most ≡ beside ++ these → with_gained before j ≡ j-now → with_gained beside k ≡ k-now → MergesInPlace (j-now, k-now) (with_gained more j, with_gained most k)
met j k j-now k-now before beside these those more most gains is also view k-view =
    rw (is, also, ← view, ← k-view) (gains before beside)

-- merges a catch that has gained conflicts to what it is after the other
pub met_behind : (j k j-now k-now : Catch) (before beside these those most : List ContextedPatch) → MergesGaining j k these those → most ≡ beside ++ these → with_gained before j ≡ j-now → with_gained beside k ≡ k-now → MergesInto j-now k-now (with_gained most k)
met_behind j k j-now k-now before beside these those most gains also view k-view =
    (with_gained (before ++ those) j, rw (also, ← view, ← k-view) (gains before beside))

-- a catch keeps its label when it gains conflicts
pub same_key : (gained : List ContextedPatch) (catch : Catch) → catch_key (with_gained gained catch) ≡ catch_key catch
same_key gained (Plain a) = refl
same_key gained (Catch.Conflictor k) = refl

-- two that gain nothing from each other keep what they have gained
pub met_aside : (j k j-now k-now : Catch) (before beside : List ContextedPatch) → MergesGaining j k [] [] → with_gained before j ≡ j-now → with_gained beside k ≡ k-now → MergesInPlace (j-now, k-now) (j-now, k-now)
met_aside j k j-now k-now before beside gains view k-view =
    rw (← view, ← k-view) (rw (append-nil before, append-nil beside) at (gains before beside))

-- a catch that has gained conflicts lets the one after it commute past
pub let_by : (j k k' j-now : Catch) (before these more : List ContextedPatch) → CommutesGaining j k k' these → more ≡ before ++ these → with_gained before j ≡ j-now → CatchesCommuteInPlace (j-now, k) (with_gained more j, k')
let_by j k k' j-now before these more passes is view = rw (is, ← view) (passes before)

-- the same if neither changes
pub let_by_aside : (j k j-now : Catch) (before : List ContextedPatch) → CommutesGaining j k k [] → with_gained before j ≡ j-now → CatchesCommuteInPlace (j-now, k) (j-now, k)
let_by_aside j k j-now before passes view = rw (← view) (rw (append-nil before) at (passes before))

-- a catch that has gained nothing is unchanged
pub ungained : (gained : List ContextedPatch) (catch : Catch) → gained ≡ [] → with_gained gained catch ≡ catch
ungained gained (Plain a) none = refl
ungained gained (Catch.Conflictor k) none = ap (λ g. with_gained g (Catch.Conflictor k)) none

-- a catch that has gained nothing commutes as the plain definition says
pub commuted_alone : {E : Type 0} (gained : List ContextedPatch) (j j-now j' k k' : Catch) (answer : Result Bool E) → gained ≡ [] → with_gained gained j ≡ j-now → IfOk answer (λ done. Changes CatchesCommuteInPlace (j, k) done (j', k')) → IfOk answer (λ done. Changes CatchesCommuteInPlace (j-now, k) done (with_gained gained j', k'))
commuted_alone gained j j-now j' k k' answer none view w =
    subst (λ x. IfOk answer (λ done. Changes CatchesCommuteInPlace (x, k) done (with_gained gained j', k'))) (sym (ungained gained j none) ∙ view) (subst (λ y. IfOk answer (λ done. Changes CatchesCommuteInPlace (j, k) done (y, k'))) (sym (ungained gained j' none)) w)
