-- What a body of adding and passing by knows at its answers.
use Rattle.camp_ctx.proofs.Words.{◌≡◌, ℕ, ◌+◌, ◌<◌, List, [], ◌∷◌, ◌++◌, length, take, drop, get_or, refl, sym, ap, ◌∙◌, subst, drop_more, inverse_of, label_of, Commute, Label, Named, Norm, Passes, Fronts, one_front, one_pass, inverse_of-inverse_of, AddsToContext, AddsAll, Cancels, PassesBy, HasNoResult, FromLast, cancel, commute, keep, ContextedPatch, HasAtMostOneResult}
use Rattle.std.proofs.lemmas.List.{take-append-drop}
use Rattle.camp_ctx.specs.Inside.InPlace.{in_context}
use Rattle.camp_seq.proofs.ListSteps.{whole}
use Rattle.camp_ctx.proofs.AddResults.{one_from_last}

-- what remains of a list after the inverse of a was moved to its front and removed
abbrev pub Behind : Named → List Named → List Named → Type 0
Behind a s rest = Fronts (label_of (inverse_of a)) s (inverse_of a) rest

-- a label that can't be moved to the front of a list
pub none_behind_inverse : (a : Named) (s : List Named) (label : Label) (t : List Named) → label ≡ label_of (inverse_of a) → t ≡ s → ((pair : Named × List Named) → ¬ (Fronts label t pair.0 pair.1)) → (rest : List Named) → ¬ (Behind a s rest)
none_behind_inverse a s label t labelled is never rest w =
    never (inverse_of a, rest) (subst (λ l. Fronts l t (inverse_of a) rest) (sym labelled) (subst (λ u. Behind a u rest) (sym is) w))

-- the element that was moved to the front of a list, and its inverse
module _ (a : Named) (s : List Named) (label : Label) (first : Named) (rest : List Named) (labelled : label ≡ label_of (inverse_of a)) (comes : Fronts label s first rest) where
  front : Fronts (label_of (inverse_of a)) s first rest
  front = subst (λ l. Fronts l s first rest) labelled comes

  pub not_inverse : ¬ (inverse_of first ≡ a) → (left : List Named) → ¬ (Behind a s left)
  not_inverse other left w = other (ap inverse_of (one_front _ s rest left first (inverse_of a) front w).0 ∙ inverse_of-inverse_of a)

  pub is_inverse : inverse_of first ≡ a → Behind a s rest
  is_inverse same =
      let it : first ≡ inverse_of a = sym (inverse_of-inverse_of first) ∙ ap inverse_of same in
      subst (λ z. Fronts (label_of (inverse_of a)) s z rest) it front

-- the three cases of adding a primitive to a context and its patch
module _ (a : Named) (s : List Named) (p : Named) where
  pub by_cancelling : (rest left : List Named) → Behind a s rest → Norm rest left → AddsToContext a (in_context s p) (in_context left p)
  by_cancelling rest left w order = cancel (record { rest = rest; front = w; context = order; patch = refl })

  module _ (never : (rest : List Named) → ¬ (Behind a s rest)) where
    no_cancelling : HasNoResult (Cancels a) (in_context s p)
    no_cancelling y w = never w.rest w.front

    pub by_passing : (passing a'' p' : Named) (passed t : List Named) → Passes a s passed passing → Commute passing p p' a'' → Norm passed t → AddsToContext a (in_context s p) (in_context t p')
    by_passing passing a'' p' passed t past swap order =
        commute no_cancelling (record { a' = passing; a'' = a''; passed = passed; past_context = past; past_patch = swap; context = order })

    pub by_keeping : (t : List Named) → ((y : Named × List Named × Named) → ¬ ((passing : Named) × Passes a s y.1 passing × Commute passing p y.2 y.0)) → Norm (a ∷ s) t → AddsToContext a (in_context s p) (in_context t p)
    by_keeping t none order =
        keep no_cancelling (λ y w. none (w.a'', w.passed, y.patch) (w.a', w.past_context, w.past_patch)) (record { context = order; patch = refl })

-- a context that can not be passed
pub not_past_context : (a : Named) (x : ContextedPatch) (s : List Named) → s ≡ x.context → ((pair : List Named × Named) → ¬ (Passes a s pair.0 pair.1)) → HasNoResult (PassesBy a) x
not_past_context a x s is never y w = never (w.passed, w.a') (subst (λ t. Passes a t w.passed w.a') (sym is) w.past_context)

-- the result of commuting past a context
module _ (a : Named) (x : ContextedPatch) (passed : List Named) (a' : Named) (past : Passes a x.context passed a') where
  pub not_past_patch : (p : Named) → p ≡ x.patch → ((pair : Named × Named) → ¬ (Commute a' p pair.0 pair.1)) → HasNoResult (PassesBy a) x
  not_past_patch p patch never y w =
      let pass = one_pass a x.context passed w.passed a' w.a' past w.past_context in
      never (y.patch, w.a'') (subst (λ q. Commute a' q y.patch w.a'') (sym patch) (subst (λ b. Commute b x.patch y.patch w.a'') (sym pass.1) w.past_patch))

  pub passes_by_from : (y : ContextedPatch) (p patch a'' : Named) → p ≡ x.patch → Commute a' p patch a'' → Norm passed y.context → y.patch ≡ patch → PassesBy a x y
  passes_by_from y p patch a'' here swap order same = record {
    a' = a';
    a'' = a'';
    passed = passed;
    past_context = past;
    past_patch = subst (λ q. Commute a' x.patch q a'') (sym same) (subst (λ q. Commute a' q patch a'') here swap);
    context = order;
  }

-- one after the other
from_both : (s t : List Named) (x y z : ContextedPatch) → AddsAll t x y → AddsAll s y z → AddsAll (s ++ t) x z
from_both [] t x y z v w = subst (AddsAll t x) (sym w) v
from_both (a ∷ s) t x y z v w = (w.0, from_both s t x y w.0 v w.1, w.2)

pub added_in_parts : (r : List Named) (n : ℕ) (x y z : ContextedPatch) → AddsAll (drop n r) x y → AddsAll (take n r) y z → AddsAll r x z
added_in_parts r n x y z v w = subst (λ l. AddsAll l x z) (take-append-drop n r) (from_both (take n r) (drop n r) x y z v w)

-- a list of one element
pub one_added : (a : Named) (r : List Named) (x copy y : ContextedPatch) → r ≡ a ∷ [] → copy ≡ x → AddsAll r copy y → AddsToContext a x y
one_added a r x copy y alone same w =
    let one : AddsAll (a ∷ []) copy y = subst (λ l. AddsAll l copy y) alone w in
    subst (λ z. AddsToContext a z y) (one.1 ∙ same) one.2

-- if the elements from i on were added, and the one before them cannot be, the list cannot be added
pub none_from_last : (Change : Named → ContextedPatch → ContextedPatch → Type 0) → ((a : Named) → HasAtMostOneResult (Change a)) → (before : List Named) (a : Named) (r : List Named) (x y : ContextedPatch) → FromLast Change r x y → HasNoResult (Change a) y → HasNoResult (FromLast Change (before ++ a ∷ r)) x
none_from_last Change one [] a r x y taken never z w =
    never z (subst (λ u. Change a u z) (one_from_last Change one r x w.0 y w.1 taken) w.2)
none_from_last Change one (b ∷ before) a r x y taken never z w = none_from_last Change one before a r x y taken never w.0 w.1

-- the same for one step of a loop that goes backwards over the list
pub none_at_step : (Change : Named → ContextedPatch → ContextedPatch → Type 0) → ((a : Named) → HasAtMostOneResult (Change a)) → (r : List Named) (i : ℕ) (a : Named) (x y : ContextedPatch) → i < length r → a ≡ get_or r i a → FromLast Change (drop (i + 1) r) x y → HasNoResult (Change a) y → HasNoResult (FromLast Change r) x
none_at_step Change one r i a x y within is taken never =
    let next : drop i r ≡ a ∷ drop (i + 1) r = drop_more r i a within ∙ ap (λ p. p ∷ drop (i + 1) r) (sym is) in
    subst (λ s. HasNoResult (FromLast Change s) x) (sym (whole r i (a ∷ drop (i + 1) r) next)) (none_from_last Change one (take i r) a (drop (i + 1) r) x y taken never)
