-- A list in normal order, given headroom, is in normal order after a primitive has commuted past it.
use Rattle.camp_ctx.proofs.Words.{List, [], ◌∷◌, ◌++◌, inl, Less, refl, sym, ap, ◌∙◌, subst, ◌≡◌, inverse_of, label_cmp, label_of, Named, Norm, Fronts, Passes}
use Rattle.camp_prim.proofs.CommuteLaws.{square}
use Rattle.camp_seq.specs.Equivalence.{through}
use Rattle.camp_seq.specs.NormalOrder.{IsLeast}
use Rattle.camp_seq.specs.Room.{HasRoom}
use Rattle.camp_seq.proofs.EquivalentLists.{comes_first, passes_alike}
use Rattle.camp_seq.proofs.ListEquivalence.{equal_are, fronted, passed}
use Rattle.camp_seq.proofs.ListResults.{label-front}
use Rattle.camp_seq.proofs.OwnOrders.{rest_ordered}
use Rattle.camp_seq.proofs.RoomSteps.{at_front, room_before, room_behind, room_exchanged, room_of_equivalent}
use Rattle.camp_ctx.specs.Inside.InPlace.{KeepsOrder}

-- if a commutes past a list, its inverse commutes past what the list becomes
passes_back : (a : Named) (s s' : List Named) (a' : Named) → Passes a s s' a' → Passes (inverse_of a) s' s (inverse_of a')
passes_back a [] s' a' w = subst (λ t. Passes (inverse_of a) t [] (inverse_of a')) (sym w.0) (refl, ap inverse_of w.1)
passes_back a (q ∷ s) s' a' w =
    subst (λ t. Passes (inverse_of a) t (q ∷ s) (inverse_of a')) (sym w.5) (q, inverse_of w.1, s, square a q w.0 w.1 w.3, passes_back w.1 s w.2 a' w.4, refl)

-- a list is in normal order if what it becomes is, once b has commuted past it
order_before : (b : Named) (t s : List Named) (b' : Named) → HasRoom (b ∷ t) → Passes b t s b' → Norm s s → Norm t t
order_before b [] s b' room w own = refl
order_before b (y ∷ t) s b' room w own =
    let first = rest_ordered w.0 w.2 (subst (λ u. Norm u u) w.5 own) in
    let turned = room_exchanged _ _ (at_front b y w.0 w.1 t w.3) room in
    let least : IsLeast (label_of y) (y ∷ t) =
    λ other z u f less.
    let v = passes_alike b (y ∷ t) (z ∷ u) s b' room (fronted other (y ∷ t) z u f) w in
    let x = v.1 in
    let there = room_before s (b' ∷ []) (room_of_equivalent (b ∷ y ∷ t) (s ++ b' ∷ []) (passed b (y ∷ t) s b' w) room) in
    let come = comes_first x.0 s x.2 there (through v.2 (equal_are _ _ x.5)) in
    let same : other ≡ label_of x.0 = sym (label-front other (y ∷ t) z u f) ∙ sym x.3.anywhere.second in
    first.0 (label_of x.0) x.0 come.0 (subst (λ l. Fronts (label_of x.0) l x.0 come.0) w.5 come.1)
    (subst (λ l. label_cmp l (label_of w.0) ≡ Less) same (subst (λ l. label_cmp other l ≡ Less) (sym w.3.anywhere.second) less)) in
    (t, inl (refl, refl, refl), least, order_before w.1 t w.2 b' (room_behind w.0 (w.1 ∷ t) turned) w.4 first.1)

-- if a commutes past a context in normal order, with headroom, the context is still in normal order
pub keeps_order : (a : Named) (c d : List Named) (a' p : Named) → Passes a c d a' → Norm c c → KeepsOrder a d p
keeps_order a c d a' p w own room =
    order_before (inverse_of a) d c (inverse_of a') (room_before (inverse_of a ∷ d) (p ∷ []) room) (passes_back a c d a' w) own
