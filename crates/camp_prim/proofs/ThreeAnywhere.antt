-- The six orders of three labelled primitives, in range or not.
use Rattle.camp_prim.proofs.Words.{refl, sym, ◌∙◌, subst, inverse_of, SixOrders, CommuteAnywhere, Named}
use Rattle.camp_prim.proofs.Inverses.{inverse_of-inverse_of}
use Rattle.camp_prim.proofs.CommuteLaws.{same_key, own_inverse_anywhere, square_anywhere}
use Rattle.camp_prim.proofs.ThreeCommute.{three_swap}

-- r commutes past q and then p
pub six_from_behind : (p q r q' p' r1 q1 y p1 : Named) → CommuteAnywhere p q q' p' → CommuteAnywhere q r r1 q1 → CommuteAnywhere p r1 y p1 → (r2 : Named) × (p2 : Named) × (q2 : Named) × SixOrders CommuteAnywhere p q r q' p' r1 q1 r2 p2 y p1 q2
six_from_behind p q r q' p' r1 q1 y p1 u v w =
    let n = three_swap p.prim q.prim q'.prim p'.prim r.prim r1.prim q1.prim y.prim p1.prim u.change v.change w.change in (
      record r { prim = n.r2 },
      record p { prim = n.p2 },
      record q { prim = n.q2 },
      record {
        pq = u;
        qr = v;
        pr1 = w;
        pr = record {
          apart = λ same. w.apart (same_key p' r p r1 u.first (sym v.second) same);
          change = n.past_first;
          second = refl;
          first = sym u.first;
        };
        qr2 = record {
          apart = λ same. v.apart (same_key q' (record r { prim = n.r2 }) q r u.second refl same);
          change = n.past_second;
          second = w.second ∙ v.second;
          first = sym u.second;
        };
        p1q1 = record {
          apart = λ same. u.apart (same_key p1 q1 p q w.first v.first same);
          change = n.others;
          second = sym v.first;
          first = sym w.first;
        };
      },
    )

-- p^ q <-> q' p' gives p q' <-> q p'^
turned : (p q q' p' : Named) → CommuteAnywhere (inverse_of p) q q' p' → CommuteAnywhere p q' q (inverse_of p')
turned p q q' p' s =
    subst (λ x. CommuteAnywhere x q' q (inverse_of p')) (inverse_of-inverse_of p) (square_anywhere (inverse_of p) q q' p' s)

-- p commutes past q and then r, so the inverse of p is what q, and then r, commutes past
pub six_from_before : (p q r q' p' r2 p2 r1 q1 : Named) → CommuteAnywhere p q q' p' → CommuteAnywhere p' r r2 p2 → CommuteAnywhere q r r1 q1 → (y : Named) × (p1 : Named) × (q2 : Named) × SixOrders CommuteAnywhere p q r q' p' r1 q1 r2 p2 y p1 q2
six_from_before p q r q' p' r2 p2 r1 q1 u v w =
    let back = own_inverse_anywhere (inverse_of p) q' q (inverse_of p') (square_anywhere p q q' p' u) in
    let n = six_from_behind q (inverse_of p') r2 (inverse_of p) q' r (inverse_of p2) r1 q1 back (square_anywhere p' r r2 p2 v) w in
    let six = n.3 in
    let behind = square_anywhere n.2 n.1 q1 (inverse_of p2) (own_inverse_anywhere q1 (inverse_of p2) n.2 n.1 six.p1q1) in (
      n.0,
      inverse_of n.2,
      n.1,
      record {
        pq = u;
        qr = w;
        pr = v;
        pr1 = turned p n.0 r1 n.2 six.qr2;
        qr2 = six.pr;
        p1q1 = subst (λ x. CommuteAnywhere (inverse_of n.2) q1 n.1 x) (inverse_of-inverse_of p2) behind;
      },
    )
