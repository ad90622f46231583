-- An element that commutes past a list, in any order, and the patch after it.
use Rattle.camp_ctx.proofs.Words.{List, [], ◌∷◌, ◌++◌, refl, ap, ◌∙◌, subst, Commute, Named, swap_unique, Passes}
use Rattle.camp_seq.specs.Equivalence.{◌~◌, same, backwards, through}
use Rattle.camp_seq.specs.Room.{HasRoom}
use Rattle.camp_seq.proofs.LawOfThree.{law_of_three}
use Rattle.camp_seq.proofs.ListEquivalence.{after_one, before, equal_are, passed}
use Rattle.camp_seq.proofs.RoomSteps.{room_before, room_of_equivalent}
use Rattle.camp_seq.proofs.EquivalentLists.{both_pass, passed_before, passes_alike, room_of_rest}
use Rattle.camp_seq.proofs.MergeOrders.{two_pass}

-- a commutes past c and p, which become d, in any order, and q
pub record Past (a : Named) (c : List Named) (p : Named) (d : List Named) (q : Named) : Type 0 where
  pub passing : Named
  pub behind : Named
  pub left : List Named
  pub past_list : Passes a c left passing
  pub past_patch : Commute passing p q behind
  pub alike : left ~ d

-- a and c are equivalent to what c becomes, followed by what a becomes
pub left_behind : (a : Named) (c : List Named) (p : Named) (d : List Named) (q : Named) → (w : Past a c p d q) → (a ∷ c) ~ (d ++ w.passing ∷ [])
left_behind a c p d q w =
    through (passed a c w.left w.passing w.past_list) (before w.left d (w.passing ∷ []) w.alike)

pub past_alike : (a : Named) (c c' : List Named) (p : Named) (d d' : List Named) (q : Named) → HasRoom (a ∷ c) → c ~ c' → d ~ d' → Past a c p d q → Past a c' p d' q
past_alike a c c' p d d' q room e f w =
    let n = passes_alike a c c' w.left w.passing room e w.past_list in
    record {
      passing = w.passing;
      behind = w.behind;
      left = n.0;
      past_list = n.1;
      past_patch = w.past_patch;
      alike = through (backwards n.2) (through w.alike f);
    }

-- if p q <-> q' p' and p' commutes past s, then p commutes past q s
pub past_with : (p q q' p' : Named) (s : List Named) (r : Named) (t : List Named) (z : Named) → Commute p q q' p' → Past p' s r t z → Past p (q ∷ s) r (q' ∷ t) z
past_with p q q' p' s r t z k w = record {
  passing = w.passing;
  behind = w.behind;
  left = q' ∷ w.left;
  past_list = (q', p', w.left, k, w.past_list, refl);
  past_patch = w.past_patch;
  alike = after_one q' w.left t w.alike;
}

-- and only there
pub past_rest : (p q q' p' : Named) (s : List Named) (r : Named) (t : List Named) (z : Named) → Commute p q q' p' → Past p (q ∷ s) r t z → (t' : List Named) × Past p' s r t' z × (t ~ (q' ∷ t'))
past_rest p q q' p' s r t z k w =
    let v = w.past_list in
    let one = swap_unique p q v.0 v.1 q' p' v.3 k in (
      v.2,
      record {
        passing = w.passing;
        behind = w.behind;
        left = v.2;
        past_list = subst (λ x. Passes x s v.2 w.passing) one.1 v.4;
        past_patch = w.past_patch;
        alike = same;
      },
      through (backwards w.alike) (equal_are _ _ (v.5 ∙ ap (λ x. x ∷ v.2) one.0)),
    )

-- two elements that commute past a list and the patch after it have headroom
three_behind : (a b : Named) (c : List Named) (p : Named) (t : List Named) (b1 : Named) (s : List Named) (a1 : Named) → HasRoom (a ∷ b ∷ (c ++ p ∷ [])) → Passes b c t b1 → Passes a t s a1 → HasRoom (a1 ∷ b1 ∷ p ∷ [])
three_behind a b c p t b1 s a1 room v w =
    room_of_rest s (a1 ∷ b1 ∷ p ∷ []) (room_of_equivalent _ _ (through (after_one a _ _ (passed_before b c t b1 (p ∷ []) v)) (passed_before a t s a1 (b1 ∷ p ∷ []) w)) room)

-- a, followed by what b leaves, has headroom
pub room_before_left : (a b : Named) (c t : List Named) (b1 : Named) → HasRoom (a ∷ b ∷ c) → Passes b c t b1 → HasRoom (a ∷ t)
room_before_left a b c t b1 room v =
    room_before (a ∷ t) (b1 ∷ []) (room_of_equivalent _ _ (after_one a (b ∷ c) (t ++ b1 ∷ []) (passed b c t b1 v)) room)

-- if a b <-> b' a', and b and then a commute past, a' and then b' do, and leave the same
pub two_past : (a b b' a' : Named) (c : List Named) (p : Named) (t : List Named) (q : Named) (s : List Named) (z : Named) → HasRoom (a ∷ b ∷ (c ++ p ∷ [])) → Commute a b b' a' → Past b c p t q → Past a t q s z → (u : List Named) × (o : Named) × Past a' c p u o × Past b' u o s z
two_past a b b' a' c p t q s z room k v w =
    let there : HasRoom (a ∷ b ∷ c) = room_before (a ∷ b ∷ c) (p ∷ []) room in
    let left : HasRoom (a ∷ v.left) = room_before_left a b c v.left v.passing there v.past_list in
    let x = past_alike a t v.left q s s z (room_of_equivalent (a ∷ v.left) (a ∷ t) (after_one a v.left t v.alike) left) (backwards v.alike) same w in
    let n = two_pass c a b b' a' v.left x.left v.passing x.passing there k v.past_list x.past_list in
    let m = law_of_three.from_behind x.passing v.passing p n.2 n.1 q v.behind z x.behind (three_behind a b c p v.left v.passing x.left x.passing room v.past_list x.past_list) n.5 v.past_patch x.past_patch in (
      n.0,
      m.0,
      record { passing = n.1; behind = m.1; left = n.0; past_list = n.3; past_patch = m.3.pr; alike = same },
      record { passing = n.2; behind = m.2; left = x.left; past_list = n.4; past_patch = m.3.qr2; alike = x.alike },
    )

-- if a b <-> b' a', and b and a' commute past, a commutes past what b leaves
pub both_past : (a b b' a' : Named) (c : List Named) (p : Named) (t : List Named) (q : Named) (u : List Named) (o : Named) → HasRoom (a ∷ b ∷ (c ++ p ∷ [])) → Commute a b b' a' → Past b c p t q → Past a' c p u o → (s : List Named) × (z : Named) × Past a t q s z
both_past a b b' a' c p t q u o room k v x =
    let there : HasRoom (a ∷ b ∷ c) = room_before (a ∷ b ∷ c) (p ∷ []) room in
    let n = both_pass c a b b' a' v.left v.passing x.left x.passing there k v.past_list x.past_list in
    let m = law_of_three.from_before n.1 v.passing p n.2 x.passing o x.behind q v.behind (three_behind a b c p v.left v.passing n.0 n.1 room v.past_list n.3) n.4 x.past_patch v.past_patch in
    let w : Past a v.left q n.0 m.0 = record { passing = n.1; behind = m.1; left = n.0; past_list = n.3; past_patch = m.3.pr1; alike = same } in
    (n.0, m.0, past_alike a v.left t q n.0 n.0 m.0 (room_before_left a b c v.left v.passing there v.past_list) v.alike same w)
