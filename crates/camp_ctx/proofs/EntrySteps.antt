-- Sorted entries, visited one after the other.
use Rattle.camp_ctx.proofs.Words.{take_more, slice_get_within, get_or_from_slice_get, ◌≡◌, ℕ, zero, suc, ◌+◌, T, cond, false, Some, None, List, [], ◌∷◌, ◌++◌, take, refl, sym, ap, ◌∙◌, subst, same_Some, none-some, slice_get, is_eq, eq_by_cmp, IsTotalOrder, tied_itself, find, below_all, is_sorted, Ordering, Less}
use Rattle.camp_share.proofs.Entries.{first, second, is_less, above}

-- the elements up to the one at i, with it
pub take_push : {X : Type 0} (xs : List X) (i : ℕ) (x : X) → slice_get xs i ≡ Some x → take (i + 1) xs ≡ take i xs ++ x ∷ []
take_push xs i x is = take_more xs i x (slice_get_within xs i x is) ∙ ap (λ y. take i xs ++ y ∷ []) (get_or_from_slice_get xs i x x is)

module _ {K X : Type 0} (R : K → K → Ordering) (o : IsTotalOrder R) where
  -- a key further on is greater
  below_later : (l : K) (es : List (K × X)) (i : ℕ) (k : K) (x : X) → slice_get es i ≡ Some (k, x) → T (below_all R l es) → R l k ≡ Less
  below_later l [] i k x is below = absurd (none-some _ is)
  below_later l (e ∷ es) zero k x is below = subst (λ z. R l z ≡ Less) (ap (λ (z : K × X). z.0) (same_Some e (k, x) is)) (is_less _ (first _ _ below))
  below_later l (e ∷ es) (suc i) k x is below = below_later l es i k x is (second _ _ below)

  apart : (l : K) (es : List (K × X)) (i : ℕ) (k : K) (x : X) → slice_get es i ≡ Some (k, x) → T (below_all R l es) → eq_by_cmp R k l ≡ false
  apart l es i k x is below = ap is_eq (above R o l k (below_later l es i k x is below))

  -- the entry at an index is what a lookup of its key finds
  pub found_at : (es : List (K × X)) (i : ℕ) (k : K) (x : X) → slice_get es i ≡ Some (k, x) → T (is_sorted R es) → find R k es ≡ Some x
  found_at [] i k x is sorted = absurd (none-some _ is)
  found_at (e ∷ es) zero k x is sorted =
      let same : e ≡ (k, x) = same_Some e (k, x) is in
      subst (λ (z : K × X). find R k (z ∷ es) ≡ Some x) (sym same) (ap (λ r. cond (is_eq r) (Some x) (find R k es)) (tied_itself o k))
  found_at (e ∷ es) (suc i) k x is sorted =
      ap (λ b. cond b (Some e.1) (find R k es)) (apart e.0 es i k x is (first _ _ sorted)) ∙ found_at es i k x is (second _ _ sorted)

  -- and is not found before it
  pub not_before : (es : List (K × X)) (i : ℕ) (k : K) (x : X) → slice_get es i ≡ Some (k, x) → T (is_sorted R es) → find R k (take i es) ≡ None
  not_before [] i k x is sorted = absurd (none-some _ is)
  not_before (e ∷ es) zero k x is sorted = refl
  not_before (e ∷ es) (suc i) k x is sorted =
      ap (λ b. cond b (Some e.1) (find R k (take i es))) (apart e.0 es i k x is (first _ _ sorted)) ∙ not_before es i k x is (second _ _ sorted)
