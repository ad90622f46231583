-- How far two lists of catches are the same.
use Rattle.camp_branch.proofs.Words.{Agree, Align, Catch, List, [], ap, append_assoc, arith, drop, keys_of, length, length-append, length-drop, subst, suc, sym, take, zero, ℕ, ◌++◌, ◌+◌, ◌∙◌, ◌∷◌, ◌≡◌, ◌≤◌}
use Rattle.std.proofs.Common.{◌≢◌}
use Rattle.std.proofs.Math.Seq.{take-append_seam}
use Rattle.camp_branch.specs.Agreeing.{HaveSamePrefix, ReachesAll}
use Rattle.camp_branch.specs.Inside.Alike.{DifferAfter}
use Rattle.camp_branch.proofs.AgreedFronts.{agree_more, as_it_is}

-- two lists have the same first n catches, and these are the rests after them
pub record AlikeSoFar (from to rest others : List Catch) (n : ℕ) : Type 0 where
  pub front : List Catch
  pub is : from ≡ front ++ rest
  pub is_too : to ≡ front ++ others
  pub long : length front ≡ n

-- one more is the same
pub alike_once_more : {from to rest others : List Catch} {n : ℕ} (j k : Catch) → AlikeSoFar from to (j ∷ rest) (k ∷ others) n → j ≡ k → AlikeSoFar from to rest others (n + 1)
alike_once_more {rest = rest} {others} {n} j k so same =
    record {
      front = so.front ++ j ∷ [];
      is = so.is ∙ sym (append_assoc so.front (j ∷ []) rest);
      is_too = so.is_too ∙ ap (λ x. so.front ++ x ∷ others) (sym same) ∙ sym (append_assoc so.front (j ∷ []) others);
      long = length-append so.front (j ∷ []) ∙ ap (λ x. x + 1) so.long;
    }

alike_front : (front rest others : List Catch) → HaveSamePrefix (front ++ rest) (front ++ others) (length front)
alike_front front rest others =
    record {
      within = omega (arith, length-append front rest);
      within_too = omega (arith, length-append front others);
      same = take-append_seam front rest ∙ sym (take-append_seam front others);
    }

different_there : (front rest others : List Catch) (j k : Catch) (m : ℕ) → j ≢ k → take m (front ++ j ∷ rest) ≡ take m (front ++ k ∷ others) → m ≤ length front
different_there front rest others j k zero ne e = omega arith
different_there [] rest others j k (suc m) ne e = absurd (ne (cc))
different_there (c ∷ front) rest others j k (suc m) ne e =
    let fewer = different_there front rest others j k m ne (cc) in
    omega arith

-- the next are not the same
pub alike_up_to : {from to rest others : List Catch} {n : ℕ} (j k : Catch) → AlikeSoFar from to (j ∷ rest) (k ∷ others) n → j ≢ k → DifferAfter from to n
alike_up_to {rest = rest} {others} j k so ne =
    rw (so.is, so.is_too, ← so.long) (record { alike = alike_front so.front (j ∷ rest) (k ∷ others); most = λ m w. different_there so.front rest others j k m ne w.same })

-- the one list ends there, or the other
pub alike_to_the_end : {from to others : List Catch} {n : ℕ} → AlikeSoFar from to [] others n → DifferAfter from to n
alike_to_the_end {others = others} so =
    rw (so.is, so.is_too, ← so.long) (record { alike = alike_front so.front [] others; most = λ m w. let h = w.within in omega (arith, length-append so.front []) })

-- prefixes that agree still agree with the same catches after both
pub agree_with_alike : (from to : List Catch) (known n : ℕ) → Agree from to known → HaveSamePrefix (drop known from) (drop known to) n → Agree from to (known + n)
agree_with_alike from to known n w alike =
    let long : known + n ≤ length from = omega (arith, length-drop known from, w.within, alike.within) in
    let long_too : known + n ≤ length to = omega (arith, length-drop known to, w.within_too, alike.within_too) in
    agree_more from to known n w long long_too (subst (λ l. Align (keys_of (take n (drop known to))) l (take n (drop known to))) (sym alike.same) (as_it_is (take n (drop known to))))

-- and no more catches are the same
pub reaches_all : (from to : List Catch) (known n long : ℕ) → DifferAfter (drop known from) (drop known to) n → known + n ≤ long → ReachesAll from to known long
reaches_all from to known n long w there more alike = let fewer = w.most more alike in omega arith
