-- The unresolved conflicts of a branch.
use Rattle.camp_questions.proofs.Words.{◌≡◌, ◌≤◌, ℕ, suc, ◌+◌, Bool, true, false, cond, List, [], ◌∷◌, ◌++◌, append-nil, map, filter, filter-append, take, Some, refl, sym, ap, ◌∙◌, subst, arith, map-append, Contains, flat_map, get, keys, name_of, Catch, Key, key_cmp, key_total, take_all, entries, entries_sorted, get-entries, len, slice_get, member_name, has_image, IsInOrder, Pair, no_member, Plain, found_at, take_push, count_of_members, members_of, AreKeyed, ContextedPatch, ContextedPatches, context_key, AreUnresolvedAmong, IsUnresolvedWith, is_unresolved, is_image, key_is_listed, listed_has_member, listed_joined, pair_of, unresolved_against, unresolved_in, unresolved_with, unresolved_within}
use Rattle.camp_questions.proofs.KeptElements.{is_kept, kept_has}
use Rattle.camp_branch.proofs.Words.{flat_map_more}

module _ (seen : ContextedPatches) where
  -- the patches that a catch names are in an unresolved conflict with it
  against_at : (xs : ContextedPatches) (identity : ContextedPatch) (name : List ℕ) (b : Bool) → is_unresolved seen (context_key identity) ≡ b → Contains (cond b (unresolved_within seen xs) []) name
      → (is_unresolved seen (context_key identity) ≡ true) × ((key : Key) × (x : ContextedPatch) × (get xs key ≡ Some x) × (key.name ≡ name) × (is_unresolved seen key ≡ true))
  against_at xs identity name false is c = no_member name c
  against_at xs identity name true is c =
      let image = is_image (λ (key : Key). key.name) (filter (is_unresolved seen) (keys xs)) name c in
      let kept = is_kept (is_unresolved seen) (keys xs) image.0 image.1 in
      let member = listed_has_member xs image.0 kept.0 in
      (is, (image.0, member.0, member.1, image.2, kept.1))

  against : (k : Catch) (name : List ℕ) → Contains (unresolved_against seen k) name → IsUnresolvedWith seen (name_of k) name k
  against (Plain a) name c = no_member name c
  against (Catch.Conflictor k) name c =
      let w = against_at k.conflicts k.identity name (is_unresolved seen (context_key k.identity)) refl c in
      (refl, w.0, w.1)

  -- all other patches in one are named by another catch
  is_against : (k : Catch) (first second : List ℕ) → IsUnresolvedWith seen first second k → (name_of k ≡ first) × Contains (unresolved_against seen k) second
  is_against (Plain a) first second w = absurd w
  is_against (Catch.Conflictor k) first second (is, own, (key, x, there, called, free)) =
      let kept = kept_has (is_unresolved seen) (keys k.conflicts) key (key_is_listed k.conflicts key x there) free in
      let image : Contains (unresolved_within seen k.conflicts) key.name = has_image (λ (key : Key). key.name) (filter (is_unresolved seen) (keys k.conflicts)) key kept in
      (is, subst (λ b. Contains (cond b (unresolved_within seen k.conflicts) []) second) (sym own) (subst (Contains (unresolved_within seen k.conflicts)) called image))

  -- the pairs that are collected, each once, in ascending order
  pub open_by : (branch : List Catch) (pairs : List Pair) → IsInOrder (unresolved_in seen branch) pairs → AreUnresolvedAmong branch seen pairs
  open_by branch pairs all = record {
    ascending = all.ascending;
    listed = listed_joined (unresolved_against seen) (IsUnresolvedWith seen) against is_against branch pairs all;
  }

  -- whether the label of a member is unresolved
  abbrev pub opens : ContextedPatch → Bool
  opens x = is_unresolved seen (context_key x)

  kept_by_index : (es : List (Key × ContextedPatch)) → ((i : ℕ) (k : Key) (x : ContextedPatch) → slice_get es i ≡ Some (k, x) → k ≡ context_key x)
      → map (λ (key : Key). key.name) (filter (is_unresolved seen) (map (λ (e : Key × ContextedPatch). e.0) es)) ≡ map member_name (filter opens (map (λ (e : Key × ContextedPatch). e.1) es))
  kept_by_index [] own = refl
  kept_by_index (e ∷ es) own =
      kept_one e.0 e.1 (own 0 e.0 e.1 refl) (is_unresolved seen e.0) refl (filter (is_unresolved seen) (map (λ (e : Key × ContextedPatch). e.0) es)) (filter opens (map (λ (e : Key × ContextedPatch). e.1) es)) (kept_by_index es (λ i k x is. own (suc i) k x is))
    where
      kept_one : (k : Key) (x : ContextedPatch) → k ≡ context_key x → (b : Bool) → is_unresolved seen k ≡ b → (ks : List Key) (xs : List ContextedPatch) → map (λ (key : Key). key.name) ks ≡ map member_name xs
          → map (λ (key : Key). key.name) (cond b (k ∷ ks) ks) ≡ map member_name (cond (opens x) (x ∷ xs) xs)
      kept_one k x own true is ks xs same =
          (λ t. (own t).name ∷ same t) ∙ ap (λ b. map member_name (cond b (x ∷ xs) xs)) (sym (ap (is_unresolved seen) (sym own) ∙ is))
      kept_one k x own false is ks xs same =
          same ∙ ap (λ b. map member_name (cond b (x ∷ xs) xs)) (sym (ap (is_unresolved seen) (sym own) ∙ is))

  -- the names within a set are those of its members
  names_of_open : (xs : ContextedPatches) → AreKeyed xs → unresolved_within seen xs ≡ map member_name (filter opens (members_of xs))
  names_of_open xs keyed =
      kept_by_index (entries xs) (λ i k x is. keyed k x (get-entries xs k ∙ found_at key_cmp key_total (entries xs) i k x is (entries_sorted xs)))

  kept_more : (members : List ContextedPatch) (i : ℕ) (x : ContextedPatch) → slice_get members i ≡ Some x → filter opens (take (i + 1) members) ≡ filter opens (take i members) ++ cond (opens x) (x ∷ []) []
  kept_more members i x at =
      ap (filter opens) (take_push members i x at) ∙ filter-append opens (take i members) (x ∷ [])

  pairs_at : (name : List ℕ) (old pairs : List Pair) (names : List (List ℕ)) (x : ContextedPatch) (b : Bool) → pairs ≡ old ++ flat_map (pair_of name) names
      → pairs ++ cond b (pair_of name x.patch.name) [] ≡ old ++ flat_map (pair_of name) (names ++ map member_name (cond b (x ∷ []) []))
  pairs_at name old pairs names x true was =
      ap (λ l. l ++ pair_of name (member_name x)) was ∙ flat_map_more (pair_of name) old names (member_name x)
  pairs_at name old pairs names x false was =
      append-nil pairs ∙ was ∙ ap (λ l. old ++ flat_map (pair_of name) l) (sym (append-nil names))

  -- the pairs of a name with those of one more member
  pub one_more_open : (name : List ℕ) (members : List ContextedPatch) (i : ℕ) (x : ContextedPatch) (old list next : List Pair) → slice_get members i ≡ Some x
      → list ≡ old ++ flat_map (pair_of name) (map member_name (filter opens (take i members))) → next ≡ list ++ unresolved_with seen name x
      → next ≡ old ++ flat_map (pair_of name) (map member_name (filter opens (take (i + 1) members)))
  one_more_open name members i x old list next at was becomes =
      let grown : map member_name (filter opens (take (i + 1) members)) ≡ map member_name (filter opens (take i members)) ++ map member_name (cond (opens x) (x ∷ []) []) =
      ap (map member_name) (kept_more members i x at) ∙ map-append member_name (filter opens (take i members)) (cond (opens x) (x ∷ []) []) in
      becomes ∙ pairs_at name old list (map member_name (filter opens (take i members))) x (opens x) was ∙ ap (λ names. old ++ flat_map (pair_of name) names) (sym grown)

  pub all_open : (name : List ℕ) (xs : ContextedPatches) (i n : ℕ) (old list : List Pair) → AreKeyed xs → n ≡ len xs → n ≤ i
      → list ≡ old ++ flat_map (pair_of name) (map member_name (filter opens (take i (members_of xs)))) → list ≡ old ++ flat_map (pair_of name) (unresolved_within seen xs)
  all_open name xs i n old list keyed counted past was =
      let long = count_of_members xs in
      let whole : take i (members_of xs) ≡ members_of xs = take_all i (members_of xs) (omega arith) in
      was ∙ ap (λ l. old ++ flat_map (pair_of name) l) (ap (λ l. map member_name (filter opens l)) whole ∙ sym (names_of_open xs keyed))
