-- What adding makes of a context in whatever order it is.
use Rattle.camp_ctx.proofs.Words.{◌≡◌, List, [], ◌∷◌, ◌++◌, refl, sym, ap, subst, append_assoc, inverse_of, label_of, Commute, Named, Norm, Passes, AddsToContext, Cancels, PassesBy, HasNoResult, cancel, commute, keep, ContextedPatch, whole}
use Rattle.camp_prim.proofs.CommuteLaws.{own_inverse, square}
use Rattle.camp_seq.specs.Equivalence.{◌~◌, same, backwards, through}
use Rattle.camp_seq.specs.Room.{HasRoom}
use Rattle.camp_seq.proofs.ListEquivalence.{after_one, before, behind, equal_are, fronted, ordered, passed, swapped}
use Rattle.camp_seq.proofs.NormalForms.{normal_form}
use Rattle.camp_seq.proofs.NormalOrders.{has_normal_order}
use Rattle.camp_seq.proofs.RoomSteps.{room_before, room_behind, room_of_equivalent}
use Rattle.camp_seq.proofs.EquivalentLists.{comes_first, passed_before}
use Rattle.camp_ctx.proofs.PastPatches.{Past, past_alike}

-- the inverse of a can't be moved to the front of c
abbrev pub NotUndone : Named → List Named → Type 0
NotUndone a c = (d : List Named) → ¬ (c ~ (inverse_of a ∷ d))

-- a does not commute past c and p
abbrev pub NotPast : Named → List Named → Named → Type 0
NotPast a c p = (d : List Named) (q : Named) → ¬ (Past a c p d q)

-- a added to c:p gives d:q, with both contexts in whatever order
pub data Sum (a : Named) (c : List Named) (p : Named) (d : List Named) (q : Named) : Type 0 where
  undone : c ~ (inverse_of a ∷ d) → q ≡ p → Sum a c p d q
  goes_past : NotUndone a c → Past a c p d q → Sum a c p d q
  stays : NotUndone a c → NotPast a c p → (a ∷ c) ~ d → q ≡ p → Sum a c p d q

-- a normal order of a list with headroom is its own
pub own_order : (s t : List Named) → HasRoom s → Norm s t → Norm t t
own_order s t room n = normal_form s t room (ordered s t n) t n

module _ (a : Named) (x : ContextedPatch) (room : HasRoom (a ∷ whole x)) where
  room_of_both : HasRoom (a ∷ x.context)
  room_of_both = room_before (a ∷ x.context) (x.patch ∷ []) room

  room_of_context : HasRoom x.context
  room_of_context = room_behind a x.context room_of_both

  room_left : (s : List Named) (a' : Named) → Passes a x.context s a' → HasRoom s
  room_left s a' w = room_before s (a' ∷ []) (room_of_equivalent (a ∷ x.context) (s ++ a' ∷ []) (passed a x.context s a' w) room_of_both)

  not_undone : HasNoResult (Cancels a) x → NotUndone a x.context
  not_undone never d e =
      let f = comes_first (inverse_of a) x.context d room_of_context e in
      let n = has_normal_order f.0 in
      never (record { context = n.0; patch = x.patch }) (record { rest = f.0; front = f.1; context = n.1; patch = refl })

  not_past : HasNoResult (PassesBy a) x → NotPast a x.context x.patch
  not_past never d q w =
      let n = has_normal_order w.left in
      never (record { context = n.0; patch = q }) (record {
        a' = w.passing;
        a'' = w.behind;
        passed = w.left;
        past_context = w.past_list;
        past_patch = w.past_patch;
        context = n.1;
      })

  is_past : (y : ContextedPatch) → PassesBy a x y → Past a x.context x.patch y.context y.patch
  is_past y w = record {
    passing = w.a';
    behind = w.a'';
    left = w.passed;
    past_list = w.past_context;
    past_patch = w.past_patch;
    alike = ordered w.passed y.context w.context;
  }

  pub as_sum : (y : ContextedPatch) → AddsToContext a x y → Sum a x.context x.patch y.context y.patch
  as_sum y (cancel w) =
      undone (through (fronted (label_of (inverse_of a)) x.context (inverse_of a) w.rest w.front) (after_one (inverse_of a) w.rest y.context (ordered w.rest y.context w.context))) w.patch
  as_sum y (commute never w) = goes_past (not_undone never) (is_past y w)
  as_sum y (keep never none w) = stays (not_undone never) (not_past none) (ordered (a ∷ x.context) y.context w.context) w.patch

  -- a sum is in its normal order
  pub in_own_order : (y : ContextedPatch) → AddsToContext a x y → Norm y.context y.context
  in_own_order y (cancel w) =
      own_order w.rest y.context (room_behind (inverse_of a) w.rest (room_of_equivalent x.context (inverse_of a ∷ w.rest) (fronted (label_of (inverse_of a)) x.context (inverse_of a) w.rest w.front) room_of_context)) w.context
  in_own_order y (commute never w) = own_order w.passed y.context (room_left w.passed w.a' w.past_context) w.context
  in_own_order y (keep never none w) = own_order (a ∷ x.context) y.context room_of_both w.context

  module _ (y : ContextedPatch) (own : Norm y.context y.context) where
    -- an equivalent list has the same normal order
    same_norm : (s : List Named) → HasRoom s → s ~ y.context → Norm s y.context
    same_norm s there e = normal_form y.context s (room_of_equivalent s y.context e there) (backwards e) y.context own

    never_cancels : NotUndone a x.context → HasNoResult (Cancels a) x
    never_cancels never z w =
        never w.rest (fronted (label_of (inverse_of a)) x.context (inverse_of a) w.rest w.front)

    never_passes : NotPast a x.context x.patch → HasNoResult (PassesBy a) x
    never_passes none z w = none z.context z.patch (is_past z w)

    pub from_sum : Sum a x.context x.patch y.context y.patch → AddsToContext a x y
    from_sum (undone e is) =
        let f = comes_first (inverse_of a) x.context y.context room_of_context e in
        let there : HasRoom y.context = room_behind (inverse_of a) y.context (room_of_equivalent x.context (inverse_of a ∷ y.context) e room_of_context) in
        cancel (record { rest = f.0; front = f.1; context = same_norm f.0 (room_of_equivalent y.context f.0 f.2 there) (backwards f.2); patch = is })
    from_sum (goes_past never w) = commute (never_cancels never) (record {
      a' = w.passing;
      a'' = w.behind;
      passed = w.left;
      past_context = w.past_list;
      past_patch = w.past_patch;
      context = same_norm w.left (room_left w.left w.passing w.past_list) w.alike;
    })
    from_sum (stays never none e is) =
        keep (never_cancels never) (never_passes none) (record { context = same_norm (a ∷ x.context) room_of_both e; patch = is })

-- a sum in another order
pub sum_right : (a : Named) (c : List Named) (p : Named) (d d' : List Named) (q : Named) → d ~ d' → Sum a c p d q → Sum a c p d' q
sum_right a c p d d' q f (undone e is) = undone (through e (after_one (inverse_of a) d d' f)) is
sum_right a c p d d' q f (goes_past never w) = goes_past never (record {
  passing = w.passing;
  behind = w.behind;
  left = w.left;
  past_list = w.past_list;
  past_patch = w.past_patch;
  alike = through w.alike f;
})
sum_right a c p d d' q f (stays never none e is) = stays never none (through e f) is

-- a sum of a context in another order
pub sum_left : (a : Named) (c c' : List Named) (p : Named) (d : List Named) (q : Named) → HasRoom (a ∷ c) → c ~ c' → Sum a c p d q → Sum a c' p d q
sum_left a c c' p d q room f (undone e is) = undone (through (backwards f) e) is
sum_left a c c' p d q room f (goes_past never w) =
    goes_past (λ t e. never t (through f e)) (past_alike a c c' p d d q room f same w)
sum_left a c c' p d q room f (stays never none e is) =
    let there : HasRoom (a ∷ c') = room_of_equivalent (a ∷ c) (a ∷ c') (after_one a c c' f) room in
    stays (λ t g. never t (through f g)) (λ t z w. none t z (past_alike a c' c p t t z there (backwards f) same w)) (through (after_one a c' c (backwards f)) e) is

-- what commutes past c and p comes after what they become
pub past_whole : (a : Named) (c : List Named) (p : Named) (d : List Named) (q : Named) → (w : Past a c p d q) → (a ∷ (c ++ p ∷ [])) ~ ((d ++ q ∷ []) ++ w.behind ∷ [])
past_whole a c p d q w =
    through (passed_before a c w.left w.passing (p ∷ []) w.past_list) (through (behind w.left _ _ (swapped w.passing p q w.behind [] w.past_patch)) (through (before w.left d (q ∷ w.behind ∷ []) w.alike) (equal_are _ _ (sym (append_assoc d (q ∷ []) (w.behind ∷ []))))))

-- if nothing changes, the sum is the same
pub stays_whole : (a : Named) (c : List Named) (p : Named) (d : List Named) (q : Named) → (a ∷ c) ~ d → q ≡ p → (a ∷ (c ++ p ∷ [])) ~ (d ++ q ∷ [])
stays_whole a c p d q e is = through (before (a ∷ c) d (p ∷ []) e) (equal_are _ _ (ap (λ z. d ++ z ∷ []) (sym is)))

-- a b <-> b' a', turned round
pub inverse_past : (a b b' a' : Named) → Commute a b b' a' → Commute a' (inverse_of b) (inverse_of b') a
inverse_past a b b' a' k = own_inverse (inverse_of b') a a' (inverse_of b) (square b' a' a b (own_inverse a b b' a' k))

-- if a b <-> b' a', then a, followed by the sum of b, has headroom
pub room_of_sum : (a b b' a' : Named) (c : List Named) (p : Named) (d : List Named) (q : Named) → HasRoom (a ∷ b ∷ (c ++ p ∷ [])) → Commute a b b' a' → Sum b c p d q → HasRoom (a ∷ (d ++ q ∷ []))
room_of_sum a b b' a' c p d q room k (undone e is) =
    let front : (a ∷ b ∷ (c ++ p ∷ [])) ~ (b' ∷ inverse_of b' ∷ a ∷ (d ++ p ∷ [])) =
    through (swapped a b b' a' (c ++ p ∷ []) k) (after_one b' _ _ (through (after_one a' _ _ (before c (inverse_of b ∷ d) (p ∷ []) e)) (swapped a' (inverse_of b) (inverse_of b') a (d ++ p ∷ []) (inverse_past a b b' a' k)))) in
    let there : HasRoom (a ∷ (d ++ p ∷ [])) = room_behind (inverse_of b') _ (room_behind b' _ (room_of_equivalent _ _ front room)) in
    subst (λ z. HasRoom (a ∷ (d ++ z ∷ []))) (sym is) there
room_of_sum a b b' a' c p d q room k (goes_past never w) =
    room_before (a ∷ (d ++ q ∷ [])) (w.behind ∷ []) (room_of_equivalent _ _ (after_one a _ _ (past_whole b c p d q w)) room)
room_of_sum a b b' a' c p d q room k (stays never none e is) =
    room_of_equivalent _ _ (after_one a _ _ (stays_whole b c p d q e is)) room
