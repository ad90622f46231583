-- The law of three: if three primitives have headroom, all six orders of them are in range.
use Rattle.camp_seq.proofs.Words.{List, [], ◌∷◌, All, All-head, All-tail, InRange, Commute, CommuteAnywhere, Named, Reaches, here, further, HasRoom, LawOfThree, ◌++◌, length, drop_at, refl, subst, All-drop}
use Rattle.camp_prim.specs.Laws.{SixOrders}
use Rattle.camp_prim.proofs.ThreeAnywhere.{six_from_behind, six_from_before}
use Rattle.camp_seq.proofs.RoomSteps.{reaches_through, at_front, exchanges_behind}

-- neighbours in a list equivalent to one with headroom are in range
two_in_range : (s before : List Named) (p q : Named) (after : List Named) → HasRoom s → Reaches s (before ++ p ∷ q ∷ after) → InRange p.prim × InRange q.prim
two_in_range s before p q after room reaches =
    let P : Named → Type 0 = λ x. InRange x.prim in
    let all : All P (p ∷ q ∷ after) = subst (All P) (drop_at before (p ∷ q ∷ after) (length before) refl) (All-drop P (length before) (before ++ p ∷ q ∷ after) (room _ reaches)) in
    (All-head P p (q ∷ after) all, All-head P q after (All-tail P p (q ∷ after) all))

-- they commute in range
turned : (s before : List Named) (p q q' p' : Named) (after : List Named) → HasRoom s → CommuteAnywhere p q q' p' → Reaches s (before ++ p ∷ q ∷ after) → Commute p q q' p' × Reaches s (before ++ q' ∷ p' ∷ after)
turned s before p q q' p' after room w reaches =
    let turn = exchanges_behind before (p ∷ q ∷ after) (q' ∷ p' ∷ after) (at_front p q q' p' after w) in
    let next = reaches_through s _ (before ++ q' ∷ p' ∷ after) reaches (further turn here) in
    let first = two_in_range s before p q after room reaches in
    let then = two_in_range s before q' p' after room next in
    (record { anywhere = w; ranges = (first.0, first.1, then.0, then.1) }, next)

six_in_range : (p q r q' p' r1 q1 r2 p2 y p1 q2 : Named) → HasRoom (p ∷ q ∷ r ∷ []) → SixOrders CommuteAnywhere p q r q' p' r1 q1 r2 p2 y p1 q2 → SixOrders Commute p q r q' p' r1 q1 r2 p2 y p1 q2
six_in_range p q r q' p' r1 q1 r2 p2 y p1 q2 room n =
    let s : List Named = p ∷ q ∷ r ∷ [] in
    let pq = turned s [] p q q' p' (r ∷ []) room n.pq here in
    let pr = turned s (q' ∷ []) p' r r2 p2 [] room n.pr pq.1 in
    let qr2 = turned s [] q' r2 y q2 (p2 ∷ []) room n.qr2 pr.1 in
    let qr = turned s (p ∷ []) q r r1 q1 [] room n.qr here in
    let pr1 = turned s [] p r1 y p1 (q1 ∷ []) room n.pr1 qr.1 in
    let p1q1 = turned s (y ∷ []) p1 q1 q2 p2 [] room n.p1q1 pr1.1 in
    record { pq = pq.0; pr = pr.0; qr2 = qr2.0; p1q1 = p1q1.0; pr1 = pr1.0; qr = qr.0 }

pub law_of_three : LawOfThree
law_of_three = record {
  from_behind = λ p q r q' p' r1 q1 y p1 room u v w.
      let n = six_from_behind p q r q' p' r1 q1 y p1 u.anywhere v.anywhere w.anywhere in
      (n.0, n.1, n.2, six_in_range p q r q' p' r1 q1 n.0 n.1 y p1 n.2 room n.3);
  from_before = λ p q r q' p' r2 p2 r1 q1 room u v w.
      let n = six_from_before p q r q' p' r2 p2 r1 q1 u.anywhere v.anywhere w.anywhere in
      (n.0, n.1, n.2, six_in_range p q r q' p' r1 q1 r2 p2 n.0 n.1 n.2 room n.3);
}
