-- An element that can be moved to the front of a list with headroom can be moved there in each list one exchange
-- away.
use Rattle.camp_seq.proofs.Words.{◌≡◌, ◌≢◌, ◌⊎◌, List, [], ◌∷◌, ◌++◌, refl, sym, ap, ◌∙◌, subst, inl, inr, label_of, key_of, Label, Commute, Named, own_inverse, swap_unique, ◌~◌, CommutesOnce, Fronts, HasRoom, IsLeast, Norm, NormalForm, length, length-append, arith}
use Rattle.camp_seq.proofs.LawOfThree.{law_of_three}
use Rattle.camp_seq.proofs.ListEquivalence.{behind, fronted}
use Rattle.camp_seq.proofs.RoomSteps.{room_before, room_behind, room_exchanged, room_of_equivalent, kept_by_swaps, at_front, exchanges_behind, exchanges_back}

-- equal, or one exchange apart
abbrev pub Near : List Named → List Named → Type 0
Near s t = (s ≡ t) ⊎ CommutesOnce Commute s t

-- the element can be moved to the front of the list too, and the rests are equal or one exchange apart
abbrev pub FrontsNear : Label → List Named → Named → List Named → Type 0
FrontsNear label t y u = (v : List Named) × Fronts label t y v × Near u v

near_behind : (x : Named) (s u v : List Named) → s ≡ x ∷ u → Near u v → Near s (x ∷ v)
near_behind x s u v e (inl same) = inl (e ∙ ap (λ y. x ∷ y) same)
near_behind x s u v e (inr w) =
    inr (subst (λ y. CommutesOnce Commute y (x ∷ v)) (sym e) (exchanges_behind (x ∷ []) u v w))

-- the first of the two exchanged elements is moved to the front
first_comes : (label : Label) (p q q' p' : Named) (s : List Named) (y : Named) (u : List Named) → Commute p q q' p' → label_of p ≡ label → y ≡ p → u ≡ q ∷ s → FrontsNear label (q' ∷ p' ∷ s) y u
first_comes label p q q' p' s y u w named is rest =
    let other : label_of q' ≢ label = λ e. w.anywhere.apart (ap key_of (named ∙ sym e ∙ w.anywhere.second)) in
    let back : Commute q' p' y q = subst (λ x. Commute q' p' x q) (sym is) (own_inverse p q q' p' w) in
    (q ∷ s, inr (other, (p', q, s, inl (w.anywhere.first ∙ named, refl, refl), back, refl)), inl rest)

-- the second of the two exchanged elements is moved to the front
second_comes : (label : Label) (p q q' p' : Named) (s : List Named) (y p1 : Named) (u : List Named) → Commute p q q' p' → label_of q ≡ label → Commute p q y p1 → u ≡ p1 ∷ s → FrontsNear label (q' ∷ p' ∷ s) y u
second_comes label p q q' p' s y p1 u w named v rest =
    let pair = swap_unique p q q' p' y p1 w v in
    (p' ∷ s, inl (w.anywhere.second ∙ named, sym pair.0, refl), inl (rest ∙ ap (λ x. x ∷ s) (sym pair.1)))

-- an element after the two is moved to the front
third_comes : (label : Label) (p q q' p' : Named) (s : List Named) (y : Named) (u : List Named) (r q1 r1 p1 : Named) (v : List Named) → HasRoom (p ∷ q ∷ s) → Commute p q q' p' → label_of p ≢ label → label_of q ≢ label → Fronts label s r v → Commute q r r1 q1 → Commute p r1 y p1 → u ≡ p1 ∷ q1 ∷ v → FrontsNear label (q' ∷ p' ∷ s) y u
third_comes label p q q' p' s y u r q1 r1 p1 v room w not_p not_q front b c rest =
    let came : (p ∷ q ∷ s) ~ (p ∷ q ∷ r ∷ v) = behind (p ∷ q ∷ []) s (r ∷ v) (fronted label s r v front) in
    let room_of_three : HasRoom (p ∷ q ∷ r ∷ []) = room_before (p ∷ q ∷ r ∷ []) v (room_of_equivalent _ _ came room) in
    let n = law_of_three.from_behind p q r q' p' r1 q1 y p1 room_of_three w b c in
    let passes_p : Fronts label (p' ∷ s) n.0 (n.1 ∷ v) =
    inr ((λ e. not_p (sym w.anywhere.first ∙ e)), (r, n.1, v, front, n.3.pr, refl)) in (
      n.2 ∷ n.1 ∷ v,
      inr ((λ e. not_q (sym w.anywhere.second ∙ e)), (n.0, n.2, n.1 ∷ v, passes_p, n.3.qr2, refl)),
      inr (subst (λ x. CommutesOnce Commute x (n.2 ∷ n.1 ∷ v)) (sym rest) (at_front p1 q1 n.2 n.1 v n.3.p1q1)),
    )

-- an exchange at the front of the list
front_swapped : (label : Label) (p q q' p' : Named) (s : List Named) (y : Named) (u : List Named) → HasRoom (p ∷ q ∷ s) → Commute p q q' p' → Fronts label (p ∷ q ∷ s) y u → FrontsNear label (q' ∷ p' ∷ s) y u
front_swapped label p q q' p' s y u room w (inl f) = first_comes label p q q' p' s y u w f.0 f.1 f.2
front_swapped label p q q' p' s y u room w (inr f) =
    let a = f.1 in
    elim a.3 [
      | inl g ↦
          second_comes label p q q' p' s y a.1 u w g.0 (subst (λ x. Commute p x y a.1) g.1 a.4) (a.5 ∙ ap (λ x. a.1 ∷ x) g.2)
      | inr g ↦
          let b = g.1 in
          third_comes label p q q' p' s y u b.0 b.1 a.0 a.1 b.2 room w f.0 g.0 b.3 b.4 a.4 (a.5 ∙ ap (λ x. a.1 ∷ x) b.5)
    ]

-- an exchange after a prefix
front_swapped_behind : (label : Label) (before : List Named) (p q q' p' : Named) (s : List Named) (y : Named) (u : List Named) → HasRoom (before ++ p ∷ q ∷ s) → Commute p q q' p' → Fronts label (before ++ p ∷ q ∷ s) y u → FrontsNear label (before ++ q' ∷ p' ∷ s) y u
front_swapped_behind label [] p q q' p' s y u room w f = front_swapped label p q q' p' s y u room w f
front_swapped_behind label (x ∷ before) p q q' p' s y u room w (inl f) = (
  before ++ q' ∷ p' ∷ s,
  inl (f.0, f.1, refl),
  inr (subst (λ x. CommutesOnce Commute x (before ++ q' ∷ p' ∷ s)) (sym f.2) (exchanges_behind before (p ∷ q ∷ s) (q' ∷ p' ∷ s) (at_front p q q' p' s w))),
)
front_swapped_behind label (x ∷ before) p q q' p' s y u room w (inr f) =
    let a = f.1 in
    let rest = front_swapped_behind label before p q q' p' s a.0 a.2 (room_behind x (before ++ p ∷ q ∷ s) room) w a.3 in
    (a.1 ∷ rest.0, inr (f.0, (a.0, a.1, rest.0, rest.1, a.4, refl)), near_behind a.1 u a.2 rest.0 a.5 rest.2)

-- an element that can be moved to the front of a list with headroom can be moved there in a list one exchange away,
-- and the rests are equal or one exchange apart
pub exchanged_front : (label : Label) (s t : List Named) (y : Named) (u : List Named) → HasRoom s → CommutesOnce Commute s t → Fronts label s y u → FrontsNear label t y u
exchanged_front label s t y u room e f =
    subst (λ x. FrontsNear label x y u) (sym e.becomes) (front_swapped_behind label e.before e.p e.q e.q' e.p' e.after y u (subst HasRoom e.was room) e.turns (subst (λ x. Fronts label x y u) e.was f))

least_exchanged : (s t : List Named) (y : Named) → HasRoom s → CommutesOnce Commute s t → IsLeast (label_of y) s → IsLeast (label_of y) t
least_exchanged s t y room e least other z u f =
    let back = exchanged_front other t s z u (room_exchanged s t e room) (exchanges_back s t e) f in
    least other z back.0 back.1

-- one exchange does not change the normal order of a list with headroom
norm_exchanged : (s t u : List Named) → HasRoom s → CommutesOnce Commute s t → Norm s u → Norm t u
norm_exchanged s t [] room e n =
    absurd (omega (arith, ap length (sym n ∙ e.was), length-append e.before (e.p ∷ e.q ∷ e.after)))
norm_exchanged s t (y ∷ u) room e n =
    let f = exchanged_front (label_of y) s t y n.0 room e n.1 in
    let rest : Norm f.0 u = elim f.2 [
      | inl is ↦ subst (λ x. Norm x u) is n.3
      | inr w ↦
          norm_exchanged n.0 f.0 u (room_behind y n.0 (room_of_equivalent s (y ∷ n.0) (fronted (label_of y) s y n.0 n.1) room)) w n.3
    ] in
    (f.0, f.1, least_exchanged s t y room e n.2, rest)

pub normal_form : NormalForm
normal_form s t room e u n = kept_by_swaps (λ x. Norm x u) (λ x y r w. norm_exchanged x y u r w) s t e room n
