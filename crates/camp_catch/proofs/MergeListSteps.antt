-- Steps of a merge of two lists, one catch after the other.
use Rattle.camp_catch.specs.declared.merging_lists.NoMerge.{NoMerge}
use Rattle.camp_catch.proofs.Words.{List, [], ap, arith, inl, inr, length, refl, ◌++◌, ◌∙◌, ◌∷◌, ◌≡◌, append_assoc, Key, catch_key, MergeCatch, DoNotMerge, MergeLists, MergeIsBlocked, MergesWithAll, IsBlockedWithin, Catch}

-- one catch, merged with the first catches of a list, has become `next`, and these have become `done`; `rest` is
-- still to be merged
pub record IsBehind (whole : List Catch) (k : Catch) (done : List Catch) (next : Catch) (rest : List Catch) : Type 0 where
  pub goes : (k' : Catch) (t : List Catch) → MergesWithAll rest next k' t → MergesWithAll whole k k' (done ++ t)
  pub sticks : (left right : Key) → IsBlockedWithin rest next left right → IsBlockedWithin whole k left right

pub behind_nothing : (whole : List Catch) (k : Catch) → IsBehind whole k [] k whole
behind_nothing whole k = record { goes = λ k' t w. w; sticks = λ left right w. w }

pub behind_one_more : {whole rest done : List Catch} {k next j after : Catch} (j' : Catch) → IsBehind whole k done next (j ∷ rest) → MergeCatch j next after j' → IsBehind whole k (done ++ j' ∷ []) after rest
behind_one_more {done = done} j' up m = record { goes = λ k' t w. rw (append_assoc done (j' ∷ []) t) (up.goes k' (j' ∷ t) (_, j', t, m, w, refl)); sticks = λ left right w. up.sticks left right (inr (_, j', m, w)) }

-- the merge is blocked here, and the two catches are reported by the names that they had
pub sticks_here : {whole rest done : List Catch} {k next j : Catch} (a b : Catch) (told : NoMerge) → IsBehind whole k done next (j ∷ rest) → DoNotMerge j next → told ≡ record { left = catch_key a; right = catch_key b } → a ≡ j → b ≡ next → IsBlockedWithin whole k told.left told.right
sticks_here a b told up never is e f =
    up.sticks _ _ (inl (never, ap (λ (x : NoMerge). x.left) is ∙ ap catch_key e, ap (λ (x : NoMerge). x.right) is ∙ ap catch_key f))

-- the first catches of one list, merged with the second list, have become `merged`, and the second has become
-- `beside`; `rest` is still to be merged
pub record IsMergedUpTo (p q merged rest beside : List Catch) : Type 0 where
  pub goes : (t q' : List Catch) → MergeLists rest beside t q' → MergeLists p q (merged ++ t) q'
  pub sticks : (left right : Key) → MergeIsBlocked rest beside left right → MergeIsBlocked p q left right

pub merged_at_first : (p q : List Catch) → IsMergedUpTo p q [] p q
merged_at_first p q = record { goes = λ t q' w. w; sticks = λ left right w. w }

pub merged_with : {p q merged rest beside beside' : List Catch} {k : Catch} (k' : Catch) → IsMergedUpTo p q merged (k ∷ rest) beside → MergesWithAll beside k k' beside' → IsMergedUpTo p q (merged ++ k' ∷ []) rest beside'
merged_with {merged = merged} k' up m = record { goes = λ t q' w. rw (append_assoc merged (k' ∷ []) t) (up.goes (k' ∷ t) q' (k', _, t, m, w, refl)); sticks = λ left right w. up.sticks left right (inr (k', _, m, w)) }

-- merging the empty list does nothing
pub none_to_merge : (p q merged : List Catch) → length p ≡ 0 → merged ≡ [] → (q' : List Catch) × MergeLists p q merged q'
none_to_merge [] q merged e is = (q, (is, refl))
none_to_merge (k ∷ p) q merged e is = absurd (omega arith)
