-- What bodies of sets know at their answers.
use Rattle.std.proofs.Common.{is_some}
use Rattle.camp_ctx.proofs.Words.{nil_from_length, ◌≡◌, ℕ, suc, ◌+◌, ◌<◌, ◌≤◌, Bool, true, false, cond, Option, Some, None, List, [], ◌∷◌, length, take, map, refl, sym, ap, ◌∙◌, subst, arith, length-map, take_all, same_Some, none-some, slice_get-map, fold, slice_get, option_map, eq_by_cmp, Equal-is, empty, get, contains_key, insert, remove, entries, entries_sorted, len, get-empty, get-entries, get-insert, same_lists, unwrap_or, unwrap_or-slice_get, slice_get_cases, inl, inr, get-remove, same_entries_map, entries-insert, len-entries, len-empty, find, put, find-append, key_cmp, Key, Named, key_total, key_ties, AddsAll, ContextedPatch, ContextedPatches, context_key, only, with_member, AreKeyed, ChangesAt, EachMember}
use Rattle.camp_ctx.proofs.AddResults.{same_key_of_sum}
use Rattle.camp_ctx.proofs.EntrySteps.{take_push, found_at, not_before}
use Rattle.camp_ctx.proofs.SetChanges.{member_before}

pub keyed_empty : AreKeyed empty
keyed_empty key x is = absurd (none-some x (sym (get-empty key_cmp key) ∙ is))

keyed_at : (xs : ContextedPatches) (l : ContextedPatch) → AreKeyed xs → (key : Key) (y : ContextedPatch) (b : Bool) → eq_by_cmp key_cmp key (context_key l) ≡ b → cond b (Some l) (get xs key) ≡ Some y → key ≡ context_key y
keyed_at xs l keyed key y true same is = key_ties key (context_key l) ((Equal-is _).0 same) ∙ ap context_key (same_Some l y is)
keyed_at xs l keyed key y false other is = keyed key y is

keyed_insert : (xs : ContextedPatches) (l : ContextedPatch) → AreKeyed xs → AreKeyed (insert xs (context_key l) l)
keyed_insert xs l keyed key y is =
    keyed_at xs l keyed key y _ refl (sym (get-insert key_total xs (context_key l) l key) ∙ is)

pub keyed_with : (xs : ContextedPatches) (k : Key) (l : ContextedPatch) → k ≡ context_key l → AreKeyed xs → AreKeyed (cond (contains_key xs k) xs (insert xs k l))
keyed_with xs k l own keyed = subst (λ j. AreKeyed (cond (contains_key xs j) xs (insert xs j l))) (sym own) (elim (contains_key xs (context_key l)) as (λ b. AreKeyed (cond b xs (insert xs (context_key l) l))) [
  | true ↦ keyed
  | false ↦ keyed_insert xs l keyed
])

pub keyed_with_all : (xs : ContextedPatches) (more : List ContextedPatch) → AreKeyed xs → AreKeyed (fold with_member xs more)
keyed_with_all xs [] keyed = keyed
keyed_with_all xs (l ∷ more) keyed = keyed_with_all (with_member xs l) more (keyed_with xs (context_key l) l refl keyed)

keyed_left : (xs : ContextedPatches) (key : Key) (y : ContextedPatch) (b : Bool) → AreKeyed xs → cond b None (get xs key) ≡ Some y → key ≡ context_key y
keyed_left xs key y true keyed is = absurd (none-some y is)
keyed_left xs key y false keyed is = keyed key y is

pub keyed_without : (xs : ContextedPatches) (k : Key) → AreKeyed xs → AreKeyed (remove xs k)
keyed_without xs k keyed key y is = keyed_left xs key y _ keyed (sym (get-remove key_total xs k key) ∙ is)

pub keyed_sum : (r : List Named) (xs ys : ContextedPatches) → EachMember (AddsAll r) xs ys → AreKeyed xs → AreKeyed ys
keyed_sum r xs ys w keyed key y is =
    let b = member_before (AddsAll r) (get xs key) (get ys key) y (w key) is in
    keyed key b.0 b.1 ∙ sym (same_key_of_sum r b.0 y b.2)

-- the values of entries
abbrev pub members_of : ContextedPatches → List ContextedPatch
members_of xs = map (λ e. e.1) (entries xs)

pub count_of_members : (xs : ContextedPatches) → length (members_of xs) ≡ len xs
count_of_members xs = length-map (entries xs) (λ e. e.1) ∙ sym (len-entries xs)

abbrev entry_of : ContextedPatch → Key × ContextedPatch
entry_of x = (context_key x, x)

entries_by_index : (es : List (Key × ContextedPatch)) → ((i : ℕ) (k : Key) (x : ContextedPatch) → slice_get es i ≡ Some (k, x) → k ≡ context_key x) → es ≡ map entry_of (map (λ e. e.1) es)
entries_by_index [] own = refl
entries_by_index (e ∷ es) own =
    λ i. (own 0 e.0 e.1 refl i, e.1) ∷ entries_by_index es (λ j k x is. own (suc j) k x is) i

-- each entry is that of its member
entries_are : (xs : ContextedPatches) → AreKeyed xs → entries xs ≡ map entry_of (members_of xs)
entries_are xs keyed =
    entries_by_index (entries xs) (λ i k x is. keyed k x (get-entries xs k ∙ found_at key_cmp key_total (entries xs) i k x is (entries_sorted xs)))

-- sets of the same members are the same
pub same_members : (xs ys : ContextedPatches) → AreKeyed xs → AreKeyed ys → members_of xs ≡ members_of ys → xs ≡ ys
same_members xs ys keyed also same =
    same_entries_map xs ys (entries_are xs keyed ∙ ap (map entry_of) same ∙ sym (entries_are ys also))

pub same_by_index : {X : Type 0} (xs ys : List X) → length xs ≡ length ys → ((k : ℕ) → k < length xs → slice_get xs k ≡ slice_get ys k) → xs ≡ ys
same_by_index xs ys long same =
    same_lists xs ys long (λ k d within. sym (unwrap_or-slice_get xs k d) ∙ ap (λ o. unwrap_or o d) (same k within) ∙ unwrap_or-slice_get ys k d)

past_end : {X : Type 0} (xs : List X) (i : ℕ) → slice_get xs i ≡ None → length xs ≤ i
past_end xs i is = elim (slice_get_cases xs i).1 [ inl w ↦ absurd (none-some w.0 (sym is ∙ w.2)) | inr w ↦ w.0 ]

-- an entry at its index
pub entry_at : (as_kept xs : ContextedPatches) (i : ℕ) (e : Key × ContextedPatch) → as_kept ≡ xs → Some e ≡ slice_get (entries as_kept) i → slice_get (entries xs) i ≡ Some e
entry_at as_kept xs i e is entry = ap (λ m. slice_get (entries m) i) (sym is) ∙ sym entry

-- a member at its index
pub member_at : (as_kept xs : ContextedPatches) (i : ℕ) (e : Key × ContextedPatch) → as_kept ≡ xs → Some e ≡ slice_get (entries as_kept) i → slice_get (members_of xs) i ≡ Some e.1
member_at as_kept xs i e is entry =
    slice_get-map (λ e. e.1) (entries xs) i ∙ ap (option_map (λ (e : Key × ContextedPatch). e.1)) (entry_at as_kept xs i e is entry)

-- the entries of one member
pub entries-only : (x : ContextedPatch) → entries (only x) ≡ entry_of x ∷ []
entries-only x =
    entries-insert key_total empty (context_key x) x ∙ ap (put key_cmp (context_key x) x) (nil_from_length (entries empty) (sym (len-entries empty) ∙ len-empty key_cmp ContextedPatch))

pub len-only : (x : ContextedPatch) → len (only x) ≡ 1
len-only x = len-entries (only x) ∙ ap length (entries-only x)

one_element : {X : Type 0} (xs : List X) (x : X) → length xs ≡ 1 → slice_get xs 0 ≡ Some x → xs ≡ x ∷ []
one_element [] x long is = absurd (omega arith)
one_element (y ∷ []) x long is = ap (λ z. z ∷ []) (same_Some y x is)
one_element (y ∷ z ∷ xs) x long is = absurd (omega arith)

pub is_only : (xs : ContextedPatches) (x : ContextedPatch) → AreKeyed xs → len xs ≡ 1 → slice_get (members_of xs) 0 ≡ Some x → xs ≡ only x
is_only xs x keyed one is = same_entries_map xs (only x) (entries_are xs keyed ∙ ap (map entry_of) (one_element (members_of xs) x (count_of_members xs ∙ one) is) ∙ sym (entries-only x))

pub none_only : (xs : ContextedPatches) (x : ContextedPatch) → slice_get (members_of xs) 0 ≡ None → ¬ (xs ≡ only x)
none_only xs x none is =
    let one : len xs ≡ 1 = ap len is ∙ len-only x in
    omega (arith, count_of_members xs, past_end (members_of xs) 0 none)

-- a list is added to the members one after the other
pub nothing_added : (r : List Named) (none : ContextedPatches) → none ≡ empty → (key : Key) → ChangesAt (AddsAll r) None (get none key)
nothing_added r none is key = subst (ChangesAt (AddsAll r) None) (sym (ap (λ m. get m key) is ∙ get-empty key_cmp key)) tt

changes_choose : (Change : ContextedPatch → ContextedPatch → Type 0) (b : Bool) (x y : ContextedPatch) (was now : Option ContextedPatch) → Change x y → ChangesAt Change was now → ChangesAt Change (cond b (Some x) was) (cond b (Some y) now)
changes_choose Change true x y was now change w = change
changes_choose Change false x y was now change w = w

nothing_from : (Change : ContextedPatch → ContextedPatch → Type 0) (now : Option ContextedPatch) → ChangesAt Change None now → now ≡ None
nothing_from Change None w = refl
nothing_from Change (Some y) w = absurd w

-- the set has no entry yet at the label of the next member
none_yet : (r : List Named) (xs sum : ContextedPatches) (i : ℕ) (k : Key) (x : ContextedPatch) → slice_get (entries xs) i ≡ Some (k, x) → ((key : Key) → ChangesAt (AddsAll r) (find key_cmp key (take i (entries xs))) (get sum key)) → get sum k ≡ None
none_yet r xs sum i k x is before =
    nothing_from (AddsAll r) (get sum k) (subst (λ was. ChangesAt (AddsAll r) was (get sum k)) (not_before key_cmp key_total (entries xs) i k x is (entries_sorted xs)) (before k))

-- so the next member is inserted there
pub one_more_put : (r : List Named) (xs sum after : ContextedPatches) (i : ℕ) (k : Key) (x y : ContextedPatch) → slice_get (entries xs) i ≡ Some (k, x) → AddsAll r x y → after ≡ cond (contains_key sum k) sum (insert sum k y) → ((key : Key) → ChangesAt (AddsAll r) (find key_cmp key (take i (entries xs))) (get sum key)) → (key : Key) → ChangesAt (AddsAll r) (find key_cmp key (take (i + 1) (entries xs))) (get after key)
one_more_put r xs sum after i k x y is adds is_put before key =
    let es = entries xs in
    let test = eq_by_cmp key_cmp key k in
    let becomes : after ≡ insert sum k y = is_put ∙ ap (λ o. cond (is_some o) sum (insert sum k y)) (none_yet r xs sum i k x is before) in
    let was : find key_cmp key (take (i + 1) es) ≡ cond test (Some x) (find key_cmp key (take i es)) =
    ap (find key_cmp key) (take_push es i (k, x) is) ∙ find-append key_cmp key_total (take i es) k x key (not_before key_cmp key_total es i k x is (entries_sorted xs)) in
    let now : get after key ≡ cond test (Some y) (get sum key) = ap (λ m. get m key) becomes ∙ get-insert key_total sum k y key in
    subst (ChangesAt (AddsAll r) (find key_cmp key (take (i + 1) es))) (sym now) (subst (λ w. ChangesAt (AddsAll r) w (cond test (Some y) (get sum key))) (sym was) (changes_choose (AddsAll r) test x y _ _ adds (before key)))

-- each index below the number of entries has an entry
pub none_missing : (xs : ContextedPatches) (i n : ℕ) → n ≡ len xs → i < n → ¬ (None ≡ slice_get (entries xs) i)
none_missing xs i n counted within none =
    let long = len-entries xs in
    let past : length (entries xs) ≤ i = past_end (entries xs) i (sym none) in
    omega arith

pub all_added : (r : List Named) (as_kept xs sum : ContextedPatches) (i n : ℕ) → as_kept ≡ xs → n ≡ len as_kept → n ≤ i → ((key : Key) → ChangesAt (AddsAll r) (find key_cmp key (take i (entries xs))) (get sum key)) → EachMember (AddsAll r) xs sum
all_added r as_kept xs sum i n is counted all w key =
    let long = len-entries xs in
    let same : n ≡ len xs = counted ∙ ap len is in
    let whole : take i (entries xs) ≡ entries xs = take_all i (entries xs) (omega arith) in
    subst (λ was. ChangesAt (AddsAll r) was (get sum key)) (ap (find key_cmp key) whole ∙ sym (get-entries xs key)) (w key)
