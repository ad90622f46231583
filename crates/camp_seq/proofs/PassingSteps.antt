-- Commuting an element past a list, one neighbour at a time, and being blocked.
use Rattle.camp_seq.proofs.Words.{◌≡◌, ℕ, zero, suc, ◌+◌, ◌<◌, ◌≤◌, Bool, true, false, List, [], ◌∷◌, ◌++◌, length, take, drop, get_or, set, set-get_or, take_more_set, refl, sym, ap, ◌∙◌, subst, inl, inr, arith, append_assoc, take_all, take_more, take-append-drop, then_some, FindsPair, Commute, Named, swap_unique, own_inverse, CommutesBeforeAll, IsBlockedByAll, CommutedLeftTo, Passes, PassesAll}
use Rattle.std.specs.Prelude.{eqb}
use Rattle.std.proofs.lemmas.Bool.Decides.{eqb_tells}
use Rattle.camp_base.specs.Answers.{Changes}
use Rattle.camp_seq.specs.Inside.InPlace.{CommutedRightTo, CommutesBeforeAllInPlace}
use Rattle.camp_seq.proofs.ListResults.{one_pass, one_pass_of_all}
pub use Rattle.camp_seq.proofs.ListSteps.{DoneFrom, all_done, at_last, at_next, drop_next, one_more_done, take_next, turned, whole}

pub passes_push : (p : Named) (s s' : List Named) (r q q' r' : Named) → Passes p s s' r → Commute r q q' r' → Passes p (s ++ q ∷ []) (s' ++ q' ∷ []) r'
passes_push p [] s' r q q' r' m w =
    (q', r', [], subst (λ x. Commute x q q' r') m.1 w, (refl, refl), ap (λ x. x ++ q' ∷ []) m.0)
passes_push p (x ∷ s) s' r q q' r' m w =
    (m.0, m.1, m.2 ++ q' ∷ [], m.3, passes_push m.1 s m.2 r q q' r' m.4 w, ap (λ y. y ++ q' ∷ []) m.5)

pub passes_stop : (p : Named) (s s' rest t : List Named) (r q z : Named) → Passes p s s' r → ((x y : Named) → ¬ (Commute r q x y)) → ¬ (Passes p (s ++ q ∷ rest) t z)
passes_stop p [] s' rest t r q z m never v = never v.0 v.1 (subst (λ x. Commute x q v.0 v.1) (sym m.1) v.3)
passes_stop p (x ∷ s) s' rest t r q z m never v =
    let pair = swap_unique p x m.0 m.1 v.0 v.1 m.3 v.3 in
    passes_stop v.1 s m.2 rest v.2 r q z (subst (λ y. Passes y s m.2 r) pair.1 m.4) never v.4

pub all_stop : (before : List Named) (p : Named) (r s s' r' t z : List Named) → PassesAll r s s' r' → ((x : List Named) (y : Named) → ¬ (Passes p s' x y)) → ¬ (PassesAll (before ++ p ∷ r) s t z)
all_stop [] p r s s' r' t z m never v =
    let rest = one_pass_of_all r s s' v.0 r' v.2 m v.3 in
    never t v.1 (subst (λ y. Passes p y t v.1) (sym rest.0) v.4)
all_stop (x ∷ before) p r s s' r' t z m never v = all_stop before p r s s' r' v.0 v.2 m never v.3

-- an element that is blocked does not commute past the whole list
pub stops_all : (r0 r s0 s : List Named) (at i : ℕ) (d : Named) → at ≡ i + 1 → i < length r → length r ≡ length r0 → DoneFrom (λ t u. PassesAll t s0 s u) r0 r at → ((x : List Named) (y : Named) → ¬ (Passes (get_or r i d) s x y)) → (t u : List Named) → ¬ (PassesAll r0 s0 t u)
stops_all r0 r s0 s at i d e within long w never t u m =
    let v = subst (DoneFrom (λ t u. PassesAll t s0 s u) r0 r) e w in
    let next = at_last r0 r i d (omega arith) v.waiting in
    all_stop (take i r0) (get_or r i d) (drop (i + 1) r0) s0 s (drop (i + 1) r) t u v.done never (subst (λ x. PassesAll x s0 t u) (whole r0 i (get_or r i d ∷ drop (i + 1) r0) next) m)

pub one_precedes : (s : List Named) (p a b : Named) (t u : List Named) → CommutesBeforeAll s p a t → CommutesBeforeAll s p b u → (a ≡ b) × (t ≡ u)
one_precedes [] p a b t u v w = (v.0 ∙ sym w.0, v.1 ∙ sym w.1)
one_precedes (q ∷ s) p a b t u v w =
    let rest = one_precedes s p v.0 w.0 v.2 w.2 v.3 w.3 in
    let pair = swap_unique q w.0 a v.1 b w.1 (subst (λ x. Commute q x a v.1) rest.0 v.4) w.4 in
    (pair.0, v.5 ∙ ap (λ x. x ∷ v.2) pair.1 ∙ ap (λ x. w.1 ∷ x) rest.1 ∙ sym w.5)

pub precedes_stop : (before : List Named) (q : Named) (s : List Named) (p r z : Named) (t u : List Named) → CommutesBeforeAll s p r t → ((x y : Named) → ¬ (Commute q r x y)) → ¬ (CommutesBeforeAll (before ++ q ∷ s) p z u)
precedes_stop [] q s p r z t u m never v =
    let rest = one_precedes s p r v.0 t v.2 m v.3 in
    never z v.1 (subst (λ x. Commute q x z v.1) (sym rest.0) v.4)
precedes_stop (x ∷ before) q s p r z t u m never v = precedes_stop before q s p r v.0 t v.2 m never v.3

-- an element that was moved in front of a list commutes back past it
pub precedes_back : (s : List Named) (p p' : Named) (s' : List Named) → CommutesBeforeAll s p p' s' → Passes p' s' s p
precedes_back [] p p' s' m = subst (λ t. Passes p' t [] p) (sym m.1) (refl, sym m.0)
precedes_back (q ∷ s) p p' s' m =
    subst (λ t. Passes p' t (q ∷ s) p) (sym m.5) (q, m.0, s, own_inverse q m.0 p' m.1 m.4, precedes_back s p m.0 m.2 m.3, refl)

pub passed_back : (s : List Named) (p p' : Named) (s' : List Named) (done : Bool) (t : List Named) (r : Named) → CommutesBeforeAll s p p' s' → FindsPair (Passes p' s') (then_some done (t, r)) → (t ≡ s) × (r ≡ p)
passed_back s p p' s' true t r m w = one_pass p' s' t s r p w (precedes_back s p p' s' m)
passed_back s p p' s' false t r m w = absurd (w (s, p) (precedes_back s p p' s' m))

-- an element is blocked by the neighbour that it can't commute past, also with more elements before that neighbour
pub all_hold : (a : List Named) (q : Named) (s : List Named) (x r : Named) (t : List Named) → CommutesBeforeAll s x r t → ((b c : Named) → ¬ (Commute q r b c)) → IsBlockedByAll (a ++ q ∷ []) s x
all_hold [] q s x r t m never = ((λ p u. precedes_stop [] q s x r p t u m never), tt)
all_hold (y ∷ a) q s x r t m never =
    ((λ p u. subst (λ z. ¬ (CommutesBeforeAll (y ∷ z) x p u)) (sym (append_assoc a (q ∷ []) s)) (precedes_stop (y ∷ a) q s x r p t u m never)), all_hold a q s x r t m never)

pub comes_up_to : (s0 s : List Named) (x0 x : Named) (at i : ℕ) (d : Named) → at ≡ i + 1 → i < length s → length s ≡ length s0 → DoneFrom (λ t u. CommutesBeforeAll t x0 x u) s0 s at → ((a b : Named) → ¬ (Commute (get_or s i d) x a b)) → CommutedLeftTo s0 x0 (i + 1) s x
comes_up_to s0 s x0 x at i d e within long w never =
    let v = subst (DoneFrom (λ t u. CommutesBeforeAll t x0 x u) s0 s) e w in
    record {
      bound = omega arith;
      long = long;
      waiting = v.waiting;
      came = v.done;
      held = subst (λ a. IsBlockedByAll a (drop (i + 1) s0) x0) (sym (take_more s i d within) ∙ v.waiting) (all_hold (take i s) (get_or s i d) (drop (i + 1) s0) x0 x (drop (i + 1) s) v.done never);
    }

-- an element that is blocked can't be moved in front of the whole list
pub never_first : (s0 : List Named) (at : ℕ) (x : Named) → 0 < at → at ≤ length s0 → IsBlockedByAll (take at s0) (drop at s0) x → (y : Named) (t : List Named) → ¬ (CommutesBeforeAll s0 x y t)
never_first s0 zero x some bound held y t = absurd (omega arith)
never_first [] (suc n) x some bound held y t = absurd (omega arith)
never_first (z ∷ s) (suc n) x some bound held y t =
    subst (λ u. ¬ (CommutesBeforeAll (z ∷ u) x y t)) (take-append-drop n s) (held.0 y t)

-- an element that has commuted past the list is moved back to the front
pub passes_back : (p : Named) (s s' : List Named) (p' : Named) → Passes p s s' p' → CommutesBeforeAll s' p' p s
passes_back p [] s' p' m = subst (λ t. CommutesBeforeAll t p' p []) (sym m.0) (sym m.1, refl)
passes_back p (q ∷ s) s' p' m =
    subst (λ t. CommutesBeforeAll t p' p (q ∷ s)) (sym m.5) (m.1, q, s, passes_back m.1 s m.2 p' m.4, own_inverse p q m.0 m.1 m.3, refl)

-- and the list is then as it was
pub gone_back : (p : Named) (s s' : List Named) (p' : Named) (done : Bool) (t : List Named) (r : Named) → Passes p s s' p' → Changes CommutesBeforeAllInPlace (s', p') done (t, r) → (t ≡ s) × (r ≡ p)
gone_back p s s' p' true t r m w =
    let same = one_precedes s' p' r p t s w (passes_back p s s' p' m) in
    (same.1, same.0)
gone_back p s s' p' false t r m w = absurd (w.0 (s, p) (passes_back p s s' p' m))

-- an element that has passed all before the end has passed the list
pub passed_all : (s0 s : List Named) (p0 p : Named) (at : ℕ) → CommutedRightTo s0 p0 at s p → length s ≤ at → Passes p0 s0 s p
passed_all s0 s p0 p at w all =
    subst (λ t. Passes p0 t s p) (take_all at s0 (omega (arith, w.long))) (subst (λ t. Passes p0 (take at s0) t p) (take_all at s all) w.passed)

-- and one that has not does not commute past it
pub passes_where : (s0 s : List Named) (p0 p : Named) (at : ℕ) → CommutedRightTo s0 p0 at s p → FindsPair (Passes p0 s0) (then_some (eqb at (length s)) (s, p))
passes_where s0 s p0 p at w = elim (eqb_tells at (length s)) [
  | inl e ↦ rw e.0 (passed_all s0 s p0 p at w (omega (arith, e.1)))
  | inr e ↦ rw e.0 (λ any m. w.stops (omega (arith, w.bound, w.long, e.1)) any.0 any.1 m)
]

-- the position that an element has reached in a list that it commutes past
module _ (s0 s : List Named) (p0 p : Named) (at : ℕ) (d : Named) (within : at < length s) (long : length s ≡ length s0) (waiting : drop at s ≡ drop at s0) (passed : Passes p0 (take at s0) (take at s) p) where
  next : drop at s0 ≡ get_or s at d ∷ drop (at + 1) s0
  next = at_next s0 s at d within long waiting

  pub goes_past_more : (q' p' : Named) → Commute p (get_or s at d) q' p' → Passes p0 (take (at + 1) s0) (take (at + 1) (set s at q')) p'
  goes_past_more q' p' swap =
      subst (λ t. Passes p0 (take (at + 1) s0) t p') (sym (take_more_set s at q' within)) (subst (λ t. Passes p0 t (take at s ++ q' ∷ []) p') (sym (take_next s0 at (get_or s at d) (omega (arith, within, long)) next)) (passes_push p0 (take at s0) (take at s) p (get_or s at d) q' p' passed swap))

  pub goes_no_further : (p' q' : Named) → ((x y : Named) → ¬ (Commute p (get_or s at d) x y)) → ◌≡◌ {A = Named × Named} (p', q') (p, get_or s at d) → CommutedRightTo s0 p0 at (set s at q') p'
  goes_no_further p' q' never same =
      let here : CommutedRightTo s0 p0 at s p = record {
        bound = omega (arith, within, long);
        long = long;
        waiting = waiting;
        passed = passed;
        stops = λ less t r w.
            passes_stop p0 (take at s0) (take at s) (drop (at + 1) s0) t p (get_or s at d) r passed never (subst (λ l. Passes p0 l t r) (whole s0 at (get_or s at d ∷ drop (at + 1) s0) next) w);
      } in
      subst (λ l. CommutedRightTo s0 p0 at l p') (sym (ap (set s at) (λ k. (same k).1) ∙ set-get_or s at d)) (subst (CommutedRightTo s0 p0 at s) (sym (λ k. (same k).0)) here)
