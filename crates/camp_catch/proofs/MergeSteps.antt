-- Facts at the returns of merging.
use Rattle.camp_catch.specs.Inside.TwoConflictors.{EffectsMerge, GainEachOther, DecidesConflict}
use Rattle.camp_catch.proofs.Words.{Bool, IsTrue, List, Option, ap, inl, inr, refl, subst, sym, ◌∙◌, ◌≡◌, FindsPair, inverse_of-inverse_of, inverse_of, Named, passes_row, MergesOne, Norm, Passes, inverse_all, add_of_all_exists, one_add_of_all, members_change, AddsToContext, AddsAll, Conflict, ContextedPatch, ContextedPatches, EachMember, bare, Becomes, joined_by, MergesInto, MergePlainConflictor, PlainBesideConflictor, TwoConflictors, Catch, Plain, Conflictor}
use Rattle.camp_catch.proofs.MergeEffects.{joins_alike}
use Rattle.camp_catch.proofs.CommuteSteps.{finds_as}

-- if the inverse of a commutes past a list, the list merges cleanly with a, and a becomes the inverse of the result
pub row_of : (a : Named) (s merged : List Named) (back' a' : Named) → a' ≡ inverse_of back' → Passes (inverse_of a) s merged back' → MergesOne a s merged a'
row_of a s merged back' a' turned w =
    rw (← inverse_of-inverse_of a, turned) (passes_row (inverse_of a) s merged back' w)

module _ (a : Named) (k : Conflictor) (seen : ContextedPatch) (sees : AddsAll k.effect k.identity seen) (apart : ¬ (Conflict (bare a) seen)) where
  pub beside_from : (merged : List Named) (back' a' : Named) (moved : Conflictor) → a' ≡ inverse_of back' → Passes (inverse_of a) k.effect merged back' → Becomes (Norm merged) (AddsToContext back') (AddsToContext back') k moved → PlainBesideConflictor a k (Catch.Conflictor moved) (Plain a')
  beside_from merged back' a' moved turned w made =
      let becomes = subst (λ p. Becomes (Norm merged) (AddsToContext p) (AddsToContext p) k moved) (sym (ap inverse_of turned ∙ inverse_of-inverse_of back')) made in
      record { seen = seen; sees = sees; apart = apart; merged = merged; a' = a'; merge = row_of a k.effect merged back' a' turned w; moved = moved; becomes = becomes; after = refl; beside = refl }

  -- a plain catch that commutes past a conflictor, both unchanged, also merges with it unchanged
  pub aside : (back : Named) → back ≡ inverse_of a → Passes back k.effect k.effect back → Becomes (Norm k.effect) (AddsToContext back) (AddsToContext back) k k → MergePlainConflictor a k (Catch.Conflictor k) (Plain a)
  aside back turned passes becomes =
      inl (beside_from k.effect back a k (sym (ap inverse_of turned ∙ inverse_of-inverse_of a)) (subst (λ p. Passes p k.effect k.effect back) turned passes) becomes)

  -- a plain catch that does not conflict with a conflictor can only merge with it without joining its set
  pub only_beside : (found : Option (Catch × Catch)) → FindsPair (PlainBesideConflictor a k) found → FindsPair (MergePlainConflictor a k) found
  only_beside = finds_as (λ k' j' w. inl w) (λ k' j' w. elim w [
    | inl v ↦ v
    | inr v ↦ absurd (apart (subst (Conflict (bare a)) (one_add_of_all k.effect k.identity v.seen seen v.sees sees) v.conflict))
  ])

module _ (j k : Conflictor) where
  pub two_from : (s2 r2 : List Named) (found : Bool) (moved own : Conflictor) (k' j' : Catch) → EffectsMerge j.effect k.effect s2 r2 → DecidesConflict j k found → Becomes (λ t. t ≡ s2) (AddsAll (inverse_all r2)) (AddsAll (inverse_all r2)) k moved → Becomes (λ t. t ≡ r2) (AddsAll (inverse_all moved.effect)) (AddsAll (inverse_all moved.effect)) j own → GainEachOther found moved own k' j' → TwoConflictors j k k' j'
  two_from s2 r2 found moved own k' j' effects tells becomes own_becomes each = record {
    merged = effects.merged;
    left = effects.left;
    merge = effects.merge;
    s2 = s2;
    r2 = r2;
    effect = effects.effect;
    own_effect = effects.own_effect;
    moved = moved;
    own = own;
    becomes = becomes;
    own_becomes = subst (λ t. Becomes (λ r. r ≡ r2) (AddsAll (inverse_all t)) (AddsAll (inverse_all t)) j own) becomes.effect own_becomes;
    y = tells.y;
    x = tells.x;
    sees = tells.sees;
    own_sees = tells.own_sees;
    joined = each.joined;
    own_joined = each.own_joined;
    joins = joins_alike (IsTrue found) (Conflict tells.x tells.y) own.identity moved each.joined tells.tells.0 tells.tells.1 each.joins;
    own_joins = joins_alike (IsTrue found) (Conflict tells.x tells.y) moved.identity own each.own_joined tells.tells.0 tells.tells.1 each.own_joins;
    after = each.after;
    beside = each.beside;
  }

  -- what the second becomes, if nobody reads what the first becomes
  module _ (s2 r2 : List Named) (found : Bool) (moved : Conflictor) (effects : EffectsMerge j.effect k.effect s2 r2) (tells : DecidesConflict j k found) (becomes : Becomes (λ t. t ≡ s2) (AddsAll (inverse_all r2)) (AddsAll (inverse_all r2)) k moved) where
    members : (sum : ContextedPatches) × EachMember (AddsAll (inverse_all moved.effect)) j.conflicts sum
    members = members_change (AddsAll (inverse_all moved.effect)) (add_of_all_exists (inverse_all moved.effect)) j.conflicts

    abbrev own : ContextedPatch → Conflictor
    own identity = record { effect = r2; conflicts = members.0; identity = identity }

    behind_from : (identity : ContextedPatch) → AddsAll (inverse_all moved.effect) j.identity identity → (k' j' : Catch) → GainEachOther found moved (own identity) k' j' → TwoConflictors j k k' j'
    behind_from identity adds k' j' =
        two_from s2 r2 found moved (own identity) k' j' effects tells becomes (record { effect = refl; conflicts = members.1; identity = adds })

    pub joined_behind : IsTrue found → (identity : ContextedPatch) → AddsAll (inverse_all moved.effect) j.identity identity → (k' : Conflictor) → k' ≡ joined_by identity moved → MergesInto (Catch.Conflictor j) (Catch.Conflictor k) (Catch.Conflictor k')
    joined_behind holds identity adds k' is =
        (_, behind_from identity adds _ _ (record { joined = k'; own_joined = _; joins = inl (holds, is); own_joins = inl (holds, refl); after = refl; beside = refl }))

    pub apart_behind : ¬ (IsTrue found) → MergesInto (Catch.Conflictor j) (Catch.Conflictor k) (Catch.Conflictor moved)
    apart_behind never =
        let sum = add_of_all_exists (inverse_all moved.effect) j.identity in
        (_, behind_from sum.0 sum.1 _ _ (record { joined = moved; own_joined = _; joins = inr (never, refl); own_joins = inr (never, refl); after = refl; beside = refl }))
