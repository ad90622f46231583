-- Elements that neither commute nor cancel with the next one are inserted before the context.
use Rattle.camp_ctx.proofs.Words.{◌≡◌, ◌<◌, ◌∙◌, ap, ℕ, length, List, [], ◌∷◌, ◌++◌, refl, subst, inverse_of, label_of, Commute, Named, chain_is_ordered, front_of_chain, AddsToContext, AddsAll, Cancels, HasNoResult, PassesBy, keep, ContextedPatch, Links}
use Rattle.std.proofs.Common.{append-nil}
use Rattle.camp_ctx.specs.Inside.InPlace.{in_context}
use Rattle.camp_ctx.specs.Inside.Links.{LinksFrom}
use Rattle.camp_seq.specs.Chains.{Chain}

no_cancel : (a : Named) (s : List Named) (patch : Named) → Chain s → Links a s patch → HasNoResult (Cancels a) (in_context s patch)
no_cancel a [] patch c l y w = w.front
no_cancel a (q ∷ s) patch c l y w = l.1 (front_of_chain (label_of (inverse_of a)) q s (inverse_of a) w.rest c w.front).0

no_passing : (a : Named) (s : List Named) (patch : Named) → Links a s patch → HasNoResult (PassesBy a) (in_context s patch)
no_passing a [] patch l y w =
    l (y.patch, (w.a'', subst (λ b. Commute b patch y.patch w.a'') w.past_context.1 w.past_patch))
no_passing a (q ∷ s) patch l y w = l.0 (w.past_context.0, (w.past_context.1, w.past_context.3))

chain_more : (a : Named) (s : List Named) (patch : Named) → Chain s → Links a s patch → Chain (a ∷ s)
chain_more a [] patch c l = (tt, tt)
chain_more a (q ∷ s) patch c l = (l.0, c)

-- a list that is wholly inserted before the empty context becomes the context
pub all_linked : (r s : List Named) (x : ContextedPatch) (patch : Named) (start : ℕ) → s ≡ [] → s ≡ x.context → patch ≡ x.patch → start ≡ 0 → LinksFrom r s patch start → AddsAll r x (in_context r x.patch)
all_linked r s x patch start none own same whole w =
    let all : LinksFrom r s patch 0 = subst (LinksFrom r s patch) whole w in
    let before : in_context s patch ≡ x = λ i. record { context = own i; patch = same i } in
    let after : in_context (r ++ s) patch ≡ in_context r x.patch = λ i. record { context = (ap (λ t. r ++ t) none ∙ append-nil r) i; patch = same i } in
    subst (AddsAll r x) after (subst (λ y. AddsAll r y (in_context (r ++ s) patch)) before all.1)

pub chain_linked : (r s : List Named) (patch : Named) (start : ℕ) → s ≡ [] → start ≡ 0 → 0 < length r → LinksFrom r s patch start → Chain r
chain_linked r s patch start none whole some w =
    let all : LinksFrom r s patch 0 = subst (LinksFrom r s patch) whole w in
    subst Chain (ap (λ t. r ++ t) none ∙ append-nil r) (all.2 some)

-- a chain with one primitive more before it
pub record Linked (r s : List Named) (patch : Named) : Type 0 where
  pub chain : Chain (r ++ s)
  pub added : AddsAll r (in_context s patch) (in_context (r ++ s) patch)

pub linked_more : (a : Named) (r s : List Named) (patch : Named) → Links a (r ++ s) patch → Linked r s patch → Linked (a ∷ r) s patch
linked_more a r s patch l w =
    let chain = chain_more a (r ++ s) patch w.chain l in
    let one : AddsToContext a (in_context (r ++ s) patch) (in_context (a ∷ (r ++ s)) patch) = keep (no_cancel a (r ++ s) patch w.chain l) (no_passing a (r ++ s) patch l) (record { context = chain_is_ordered (a ∷ (r ++ s)) chain; patch = refl }) in
    record { chain = chain; added = (in_context (r ++ s) patch, w.added, one) }
