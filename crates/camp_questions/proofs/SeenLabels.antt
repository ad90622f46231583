-- Gathers the labels in conflict, from the last catch of a branch to the first conflictor.
use Rattle.camp_questions.proofs.Words.{true≢false, ◌≤◌, ◌+◌, arith, drop, drop_more, get_or, length, take, ◌≡◌, ℕ, suc, Bool, true, false, cond, List, [], ◌∷◌, ◌++◌, map, Option, Some, None, refl, sym, ap, ◌∙◌, subst, none-some, eq_by_cmp, empty, get, get-empty, get-insert, contains_key, insert, find, flat_map, effect_of, Catch, Key, key_cmp, key_total, key_ties, Named, entries, entries_sorted, get-entries, len, values, MatchOption, is_some, slice_get, take_all, found_at, take_push, count_of_members, members_of, AddsAll, AreKeyed, ContextedPatch, ContextedPatches, context_key, with_member, inverse_all-append, inverse_all, AllGathered, IsGathered, first_with_key, AreSeen, IsSeen, HaveNoContexted, contexted_in, append-nil, bytes_eq, filter, filter-append, AppendsIf, AppendsIfNamed, AppendsEachNew, AppendsNew, IsSideAmong, Equal-is}
use Rattle.camp_catch.specs.declared.catches.Catch.TheVariants.{Plain}
use Rattle.camp_catch.specs.declared.catches.Conflictor.{Conflictor}
use Rattle.camp_ctx.proofs.AddResults.{same_key_of_sum}
use Rattle.camp_questions.specs.Inside.Seeing.{from_first_conflictor, is_plain_catch}
use Rattle.std.specs.List.{prefix_len}

-- the entry that was gathered first stays when others follow
first_stays : (key : Key) (xs : List ContextedPatch) (x : ContextedPatch) (found : Option ContextedPatch) → first_with_key key xs ≡ found → first_with_key key (xs ++ x ∷ []) ≡ cond (is_some found) found (first_with_key key (x ∷ []))
first_stays key [] x None is = refl
first_stays key [] x (Some y) is = absurd (none-some y is)
first_stays key (z ∷ xs) x found is = stays_at (eq_by_cmp key_cmp key (context_key z)) is (first_stays key xs x)
  where
    stays_at : (b : Bool) → cond b (Some z) (first_with_key key xs) ≡ found → ((o : Option ContextedPatch) → first_with_key key xs ≡ o → first_with_key key (xs ++ x ∷ []) ≡ cond (is_some o) o (first_with_key key (x ∷ []))) → cond b (Some z) (first_with_key key (xs ++ x ∷ [])) ≡ cond (is_some found) found (first_with_key key (x ∷ []))
    stays_at true is rest = subst (λ o. Some z ≡ cond (is_some o) o (first_with_key key (x ∷ []))) is refl
    stays_at false is rest = rest found is

too_behind : (undone : List Named) (told : Option ContextedPatch) (was seen next : Option ContextedPatch) (one : Option ContextedPatch) → IsGathered undone was told seen → IsGathered undone seen one next → IsGathered undone was (cond (is_some told) told one) next
too_behind undone told (Some x) seen next one w v = rw w at v
too_behind undone (Some x) None seen next one (y, adds, is) v = (y, adds, rw is at v)
too_behind undone None None seen next one w v = rw w at v

-- one more entry is gathered
pub one_more_told : (undone : List Named) (xs : List ContextedPatch) (x : ContextedPatch) (was seen next : ContextedPatches) → AllGathered undone xs was seen → AllGathered undone (x ∷ []) seen next → AllGathered undone (xs ++ x ∷ []) was next
one_more_told undone xs x was seen next w v key =
    subst (λ o. IsGathered undone (get was key) o (get next key)) (sym (first_stays key xs x (first_with_key key xs) refl)) (too_behind undone (first_with_key key xs) (get was key) (get seen key) (get next key) (first_with_key key (x ∷ [])) (w key) (v key))

-- a label that is gathered already stays
kept_at : (undone : List Named) (x : ContextedPatch) (seen : ContextedPatches) (key : Key) (found : Option ContextedPatch) (b : Bool) → get seen key ≡ found → eq_by_cmp key_cmp key (context_key x) ≡ b → is_some (get seen (context_key x)) ≡ true → IsGathered undone found (cond b (Some x) None) (get seen key)
kept_at undone x seen key (Some y) b is same there = is
kept_at undone x seen key None false is same there = is
kept_at undone x seen key None true is same there =
    let own : key ≡ context_key x = key_ties key (context_key x) ((Equal-is _).0 same) in
    absurd (none_there (sym (ap is_some (sym is ∙ ap (get seen) own) ∙ there)))
  where
    none_there : {A : Type 0} → true ≡ false → A
    none_there e = cc

pub label_kept : (undone : List Named) (x : ContextedPatch) (seen : ContextedPatches) → is_some (get seen (context_key x)) ≡ true → AllGathered undone (x ∷ []) seen seen
label_kept undone x seen there key =
    kept_at undone x seen key (get seen key) (eq_by_cmp key_cmp key (context_key x)) refl refl there

-- a label that is not gathered yet is inserted
none_by : (found : Option ContextedPatch) → is_some found ≡ false → found ≡ None
none_by None e = refl
none_by (Some x) e = absurd (true≢false e)

come_at : (undone : List Named) (x y : ContextedPatch) (seen next : ContextedPatches) (key : Key) (found : Option ContextedPatch) (b : Bool) → AddsAll undone x y → get seen key ≡ found → eq_by_cmp key_cmp key (context_key x) ≡ b → get seen (context_key x) ≡ None → get next key ≡ cond b (Some y) (get seen key) → IsGathered undone found (cond b (Some x) None) (get next key)
come_at undone x y seen next key (Some z) false adds is same none now = now ∙ is
come_at undone x y seen next key (Some z) true adds is same none now =
    let own : key ≡ context_key x = key_ties key (context_key x) ((Equal-is _).0 same) in
    absurd (none-some z (sym none ∙ ap (get seen) (sym own) ∙ is))
come_at undone x y seen next key None false adds is same none now = now ∙ is
come_at undone x y seen next key None true adds is same none now = (y, adds, now)

pub label_comes : (undone : List Named) (x y : ContextedPatch) (seen next : ContextedPatches) → AddsAll undone x y → is_some (get seen (context_key x)) ≡ false → next ≡ with_member seen y → AllGathered undone (x ∷ []) seen next
label_comes undone x y seen next adds lacks becomes key =
    let none = none_by (get seen (context_key x)) lacks in
    let same_key : context_key y ≡ context_key x = same_key_of_sum undone x y adds in
    let absent : contains_key seen (context_key y) ≡ false = ap (λ k. is_some (get seen k)) same_key ∙ ap is_some none in
    let is : next ≡ insert seen (context_key x) y = becomes ∙ ap (λ b. cond b seen (insert seen (context_key y) y)) absent ∙ ap (λ k. insert seen k y) same_key in
    come_at undone x y seen next key (get seen key) (eq_by_cmp key_cmp key (context_key x)) adds refl refl none (ap (λ m. get m key) is ∙ get-insert key_total seen (context_key x) y key)

by_index : (key : Key) (es : List (Key × ContextedPatch)) → ((i : ℕ) (k : Key) (x : ContextedPatch) → slice_get es i ≡ Some (k, x) → k ≡ context_key x) → first_with_key key (map (λ (e : Key × ContextedPatch). e.1) es) ≡ find key_cmp key es
by_index key [] own = refl
by_index key (e ∷ es) own =
    λ t. cond (eq_by_cmp key_cmp key (sym (own 0 e.0 e.1 refl) t)) (Some e.1) (by_index key es (λ i k x is. own (suc i) k x is) t)

-- what the members of a set say of a label is the member with this label
pub members_tell : (xs : ContextedPatches) → AreKeyed xs → (key : Key) → first_with_key key (values xs) ≡ get xs key
members_tell xs keyed key =
    by_index key (entries xs) (λ i k x is. keyed k x (get-entries xs k ∙ found_at key_cmp key_total (entries xs) i k x is (entries_sorted xs))) ∙ sym (get-entries xs key)

-- one more member of the set of a conflictor is gathered
pub one_member_told : (undone : List Named) (k : Conflictor) (i : ℕ) (x : ContextedPatch) (was seen next : ContextedPatches) → slice_get (members_of k.conflicts) i ≡ Some x → AllGathered undone (k.identity ∷ take i (members_of k.conflicts)) was seen → AllGathered undone (x ∷ []) seen next
    → AllGathered undone (k.identity ∷ take (i + 1) (members_of k.conflicts)) was next
one_member_told undone k i x was seen next at all one =
    subst (λ l. AllGathered undone (k.identity ∷ l) was next) (sym (take_push (members_of k.conflicts) i x at)) (one_more_told undone (k.identity ∷ take i (members_of k.conflicts)) x was seen next all one)

-- after all members, the result is what the conflictor says
pub conflictor_told : (undone : List Named) (k : Conflictor) (was seen : ContextedPatches) (i n : ℕ) → AreKeyed k.conflicts → n ≡ len k.conflicts → n ≤ i → AllGathered undone (k.identity ∷ take i (members_of k.conflicts)) was seen
    → (key : Key) → IsGathered undone (get was key) (contexted_in (Catch.Conflictor k) key) (get seen key)
conflictor_told undone k was seen i n keyed counted past all key =
    let long = count_of_members k.conflicts in
    let whole : take i (members_of k.conflicts) ≡ members_of k.conflicts = take_all i (members_of k.conflicts) (omega arith) in
    subst (λ o. IsGathered undone (get was key) o (get seen key)) (ap (λ o. cond (eq_by_cmp key_cmp key (context_key k.identity)) (Some k.identity) o) (ap (first_with_key key) whole ∙ members_tell k.conflicts keyed key)) (all key)

seen_before : (k : Catch) (behind : List Catch) (key : Key) (x : ContextedPatch) → IsSeen behind key x → IsSeen (k ∷ behind) key x
seen_before k behind key x seen = record {
  before = k ∷ seen.before;
  k = seen.k;
  behind = seen.behind;
  parts = ap (λ l. k ∷ l) seen.parts;
  last = seen.last;
  x = seen.x;
  told = seen.told;
  added = seen.added;
}

one_seen_at : (k : Catch) (behind : List Catch) (key : Key) (was told now : Option ContextedPatch) → contexted_in k key ≡ told → MatchOption was (HaveNoContexted behind key) (IsSeen behind key)
    → IsGathered (inverse_all (flat_map effect_of behind)) was told now → MatchOption now (HaveNoContexted (k ∷ behind) key) (IsSeen (k ∷ behind) key)
one_seen_at k behind key (Some x) told now is seen w =
    subst (λ o. MatchOption o (HaveNoContexted (k ∷ behind) key) (IsSeen (k ∷ behind) key)) (sym w) (seen_before k behind key x seen)
one_seen_at k behind key None None now is seen w =
    subst (λ o. MatchOption o (HaveNoContexted (k ∷ behind) key) (IsSeen (k ∷ behind) key)) (sym w) (is, seen)
one_seen_at k behind key None (Some x) now is seen (y, adds, w) =
    subst (λ o. MatchOption o (HaveNoContexted (k ∷ behind) key) (IsSeen (k ∷ behind) key)) (sym w) (record {
      before = [];
      k = k;
      behind = behind;
      parts = refl;
      last = seen;
      x = x;
      told = is;
      added = adds;
    })

-- one more catch is gathered
pub one_seen : (k : Catch) (behind : List Catch) (seen next : ContextedPatches) (undone : List Named) → undone ≡ inverse_all (flat_map effect_of behind) → AreSeen behind seen
    → ((key : Key) → IsGathered undone (get seen key) (contexted_in k key) (get next key)) → AreSeen (k ∷ behind) next
one_seen k behind seen next undone is are told key =
    one_seen_at k behind key (get seen key) (contexted_in k key) (get next key) refl (are key) (subst (λ u. IsGathered u (get seen key) (contexted_in k key) (get next key)) is (told key))

-- the state of the gathering: the labels of the last catches, and the inverses of their effects
pub record IsSoFar (catches : List Catch) (undone : List Named) (seen : ContextedPatches) : Type 0 where
  pub back : undone ≡ inverse_all (flat_map effect_of catches)
  pub are : AreSeen catches seen

pub nothing_so_far : (catches : List Catch) (undone : List Named) (seen : ContextedPatches) → catches ≡ [] → undone ≡ [] → seen ≡ empty → IsSoFar catches undone seen
nothing_so_far catches undone seen none nothing is =
    rw (none, nothing, is) (record {
      back = refl;
      are = λ key. subst (λ o. MatchOption o (HaveNoContexted [] key) (IsSeen [] key)) (sym (get-empty key_cmp key)) tt;
    })

-- the catch before those
pub catch_before : (catches : List Catch) (i at : ℕ) (k d : Catch) → i + 1 ≡ at → at ≤ length catches → k ≡ get_or catches i d → drop i catches ≡ k ∷ drop at catches
catch_before catches i at k d follows within is =
    drop_more catches i d (omega arith) ∙ ap (λ q. q ∷ drop (i + 1) catches) (sym is) ∙ ap (λ n. k ∷ drop n catches) follows

-- one catch more
pub one_so_far : (k : Catch) (behind all : List Catch) (undone more : List Named) (seen next : ContextedPatches) → all ≡ k ∷ behind → IsSoFar behind undone seen
    → ((key : Key) → IsGathered undone (get seen key) (contexted_in k key) (get next key)) → more ≡ undone ++ inverse_all (effect_of k) → IsSoFar all more next
one_so_far k behind all undone more seen next is so_far told grows =
    subst (λ l. IsSoFar l more next) (sym is) (record {
      back = grows ∙ ap (λ u. u ++ inverse_all (effect_of k)) so_far.back ∙ sym (inverse_all-append (effect_of k) (flat_map effect_of behind));
      are = one_seen k behind seen next undone so_far.back so_far.are told;
    })

-- ---- plain catches before the first conflictor have no label in conflict

same_without : (undone : List Named) (found : Option ContextedPatch) → IsGathered undone found None found
same_without undone None = refl
same_without undone (Some x) = refl

-- what is seen from the first conflictor on is seen in all
pub seen_in_all : (catches : List Catch) (seen : ContextedPatches) → AreSeen (from_first_conflictor catches) seen → AreSeen catches seen
seen_in_all [] seen are = are
seen_in_all (Plain a ∷ catches) seen are =
    let plain = prefix_len is_plain_catch catches in
    let more : 1 + plain ≡ suc plain = omega arith in
    let rest : AreSeen (from_first_conflictor catches) seen = subst (λ n. AreSeen (drop n (Plain a ∷ catches)) seen) more are in
    one_seen (Plain a) catches seen seen (inverse_all (flat_map effect_of catches)) refl (seen_in_all catches seen rest) (λ key. same_without (inverse_all (flat_map effect_of catches)) (get seen key))
seen_in_all (Catch.Conflictor k ∷ catches) seen are = are

-- ---- the labels of a patch are appended one after the other

behind_all : (changes : List Named) (xs : List ContextedPatch) (x : ContextedPatch) (side next : List Named) → AppendsEachNew changes xs side → AppendsNew side x next → AppendsEachNew changes (xs ++ x ∷ []) next
behind_all changes [] x side next is one = (next, subst (λ s. AppendsNew s x next) is one, refl)
behind_all changes (y ∷ xs) x side next (between, first, more) one =
    (between, first, behind_all between xs x side next more one)

comes_at : (xs : List ContextedPatch) (x : ContextedPatch) (side next : List Named) (b : Bool) → AppendsEachNew [] xs side → AppendsIf b side x next → AppendsEachNew [] (xs ++ cond b (x ∷ []) []) next
comes_at xs x side next true all one = behind_all [] xs x side next all one
comes_at xs x side next false all same =
    subst (λ l. AppendsEachNew [] l next) (sym (append-nil xs)) (subst (AppendsEachNew [] xs) (sym same) all)

abbrev of_name : List ℕ → ContextedPatch → Bool
of_name name x = bytes_eq name x.patch.name

-- the labels of a name, with one more
pub one_comes : (name : List ℕ) (members : List ContextedPatch) (i : ℕ) (x : ContextedPatch) (side next : List Named) → slice_get members i ≡ Some x
    → AppendsEachNew [] (filter (of_name name) (take i members)) side → AppendsIfNamed side name x next → AppendsEachNew [] (filter (of_name name) (take (i + 1) members)) next
one_comes name members i x side next at all one =
    let more : filter (of_name name) (take (i + 1) members) ≡ filter (of_name name) (take i members) ++ cond (of_name name x) (x ∷ []) [] =
    ap (filter (of_name name)) (take_push members i x at) ∙ filter-append (of_name name) (take i members) (x ∷ []) in
    subst (λ l. AppendsEachNew [] l next) (sym more) (comes_at (filter (of_name name) (take i members)) x side next (of_name name x) all one)

pub all_come : (name : List ℕ) (xs : ContextedPatches) (i n : ℕ) (side : List Named) → n ≡ len xs → n ≤ i → AppendsEachNew [] (filter (of_name name) (take i (members_of xs))) side → IsSideAmong xs name side
all_come name xs i n side counted past all =
    let long = count_of_members xs in
    let whole : take i (members_of xs) ≡ members_of xs = take_all i (members_of xs) (omega arith) in
    subst (λ l. AppendsEachNew [] (filter (of_name name) l) side) whole all
