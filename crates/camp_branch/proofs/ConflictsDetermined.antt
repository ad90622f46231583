-- The conflicts of a branch: which they are, and that they are one list.
use Rattle.camp_branch.proofs.Words.{◌≡◌, ◌⊎◌, ◌↔◌, ℕ, true, Option, None, Some, List, [], ◌∷◌, map, is_some, refl, sym, ap, ◌∙◌, subst, inl, inr, Contains-append_cases, Contains-append_left, Contains-append_right, Contains-from_any, list_any-from_Contains, tells_apart, Contains, flat_map, ordering_reverse, eq_by_cmp_equiv, nat_list_cmp_total, contains_key-keys, get, keys, Ordering, Less, Equal, Greater, Key, key_total, key_ties, ContextedPatches, ContextedPatch, Catch, Plain, name_of, AreConflicts, ConflictsWith, names_against, names_within, ordered_by, pair_of, pairs_in, ConflictsAreDetermined, ◌<◌, length, get_or, arith, length-map, get_or-map, Contains-get_or, ◌≤◌, ◌+◌, ◌++◌, suc, take, flat_map_more, map-append, take_all, slice_get, entries, entries_sorted, get-entries, len, AreKeyed, context_key, count_of_members, members_of}
use Rattle.camp_branch.proofs.Names.{has_image}
use Rattle.camp_branch.proofs.SortedPairs.{IsInOrder, Pair, Within, ascending_once, by_name, first_or_later, has_first, has_later, in_order, no_member}
use Rattle.std.proofs.lemmas.Option.{none-some, slice_get_cases}
use Rattle.camp_prim.specs.Labels.{key_cmp}
use Rattle.camp_ctx.proofs.EntrySteps.{found_at, take_push}

-- the elements that each element of a list makes in one of two lists
pub has_of_each : {X A : Type 0} (f : X → List A) (list : List X) (x : X) (y : A) → Contains list x → Contains (f x) y → Contains (flat_map f list) y
has_of_each f [] x y c d = no_member x c
has_of_each f (z ∷ list) x y c d = elim (first_or_later z x list c) [
  | inl e ↦ Contains-append_left (f z) _ y (subst (λ w. Contains (f w) y) (sym e) d)
  | inr later ↦ Contains-append_right (f z) _ y (has_of_each f list x y later d)
]

one_has : {X A : Type 0} (f : X → List A) (list : List X) (y : A) → Contains (flat_map f list) y → (x : X) × Contains list x × Contains (f x) y
one_has f [] y c = no_member y c
one_has f (z ∷ list) y c = elim (Contains-append_cases (f z) (flat_map f list) y c) [
  | inl d ↦ (z, has_first z list, d)
  | inr d ↦
      let rest = one_has f list y d in
      (rest.0, has_later z rest.0 list rest.1, rest.2)
]

pub is_image : {X A : Type 0} (f : X → A) (list : List X) (y : A) → Contains (map f list) y → (x : X) × Contains list x × (f x ≡ y)
is_image f [] y c = no_member y c
is_image f (x ∷ list) y (k, within, is) =
    let place : k < length (x ∷ list) = omega (arith, length-map (x ∷ list) f) in
    (get_or (x ∷ list) k x, Contains-get_or (x ∷ list) k x place, sym (get_or-map f (x ∷ list) k x y place) ∙ is)

value_of : {X : Type 0} (o : Option X) → is_some o ≡ true → (x : X) × (o ≡ Some x)
value_of None e = cc
value_of (Some x) e = (x, refl)

pub key_is_listed : (xs : ContextedPatches) (key : Key) (x : ContextedPatch) → get xs key ≡ Some x → Contains (keys xs) key
key_is_listed xs key x is =
    Contains-from_any (tells_apart key_ties) key (keys xs) (sym (contains_key-keys xs key) ∙ ap is_some is)

pub listed_has_member : (xs : ContextedPatches) (key : Key) → Contains (keys xs) key → (x : ContextedPatch) × (get xs key ≡ Some x)
listed_has_member xs key c =
    value_of (get xs key) (contains_key-keys xs key ∙ list_any-from_Contains (eq_by_cmp_equiv key_total) key (keys xs) c)

against : (k : Catch) (name : List ℕ) → Contains (names_against k) name → ConflictsWith k name
against (Plain a) name c = no_member name c
against (Catch.Conflictor k) name c =
    let key = is_image (λ (key : Key). key.name) (keys k.conflicts) name c in
    let member = listed_has_member k.conflicts key.0 key.1 in
    (key.0, member.0, member.1, key.2)

is_against : (k : Catch) (name : List ℕ) → ConflictsWith k name → Contains (names_against k) name
is_against (Plain a) name w = absurd w
is_against (Catch.Conflictor k) name w =
    subst (λ n. Contains (names_within k.conflicts) n) w.3 (has_image (λ (key : Key). key.name) (keys k.conflicts) w.0 (key_is_listed k.conflicts w.0 w.1 w.2))

-- of two names, the first comes first
first_is_less : (a b : List ℕ) → by_name a b ≡ Less → Contains (pair_of a b) (a, b)
first_is_less a b less =
    subst (λ o. Contains (ordered_by o a b) (a, b)) (sym less) (has_first (a, b) [])

second_is_less : (a b : List ℕ) → by_name b a ≡ Less → Contains (pair_of a b) (b, a)
second_is_less a b less =
    subst (λ o. Contains (ordered_by o a b) (b, a)) (sym (nat_list_cmp_total.antisymm a b ∙ ap ordering_reverse less)) (has_first (b, a) [])

-- a pair is of two names, the lesser first
abbrev IsOfNames : List ℕ → List ℕ → Pair → Type 0
IsOfNames a b p = (by_name p.0 p.1 ≡ Less) × (((a ≡ p.0) × (b ≡ p.1)) ⊎ ((a ≡ p.1) × (b ≡ p.0)))

alone : {X : Type 0} (x y : X) → Contains (x ∷ []) y → x ≡ y
alone x y c = elim (first_or_later x y [] c) [ inl e ↦ e | inr d ↦ no_member y d ]

of_names : (a b : List ℕ) (o : Ordering) (p : Pair) → by_name a b ≡ o → Contains (ordered_by o a b) p → IsOfNames a b p
of_names a b Less p e c = subst (IsOfNames a b) (alone (a, b) p c) (e, inl (refl, refl))
of_names a b Equal p e c = no_member p c
of_names a b Greater p e c =
    subst (IsOfNames a b) (alone (b, a) p c) (nat_list_cmp_total.antisymm b a ∙ ap ordering_reverse e, inr (refl, refl))

-- pairs of the name of each catch with those that it names, which are just those that are joined to it
module _ (named : Catch → List (List ℕ)) (Joins : List ℕ → List ℕ → Catch → Type 0) (joins : (k : Catch) (name : List ℕ) → Contains (named k) name → Joins (name_of k) name k) (is_named : (k : Catch) (first second : List ℕ) → Joins first second k → (name_of k ≡ first) × Contains (named k) second) where
  abbrev pub paired : Catch → List Pair
  paired k = flat_map (pair_of (name_of k)) (named k)

  -- a catch joins two names, one way or the other
  abbrev pub AreJoined : List Catch → List ℕ → List ℕ → Type 0
  AreJoined branch first second = (k : Catch) × Contains branch k × (Joins first second k ⊎ Joins second first k)

  joined_as : (k : Catch) (a b c d : List ℕ) → a ≡ c → b ≡ d → Joins a b k → Joins c d k
  joined_as k a b c d e f w = subst (λ n. Joins c n k) f (subst (λ n. Joins n b k) e w)

  -- each collected pair is of two patches in conflict, the lesser name first
  collected_joined : (branch : List Catch) (p : Pair) → Contains (flat_map paired branch) p → (by_name p.0 p.1 ≡ Less) × AreJoined branch p.0 p.1
  collected_joined branch p c =
      let at = one_has paired branch p c in
      let k : Catch = at.0 in
      let member = one_has (pair_of (name_of k)) (named k) p at.2 in
      let with = joins k member.0 member.1 in
      let names : IsOfNames (name_of k) member.0 p = of_names (name_of k) member.0 _ p refl member.2 in
      let joined : Joins p.0 p.1 k ⊎ Joins p.1 p.0 k = elim names.1 [
        | inl e ↦ inl (joined_as k (name_of k) member.0 p.0 p.1 e.0 e.1 with)
        | inr e ↦ inr (joined_as k (name_of k) member.0 p.1 p.0 e.0 e.1 with)
      ] in
      (names.0, (k, at.1, joined))

  at_catch : (k : Catch) (first second : List ℕ) → by_name first second ≡ Less → Joins first second k ⊎ Joins second first k → Contains (paired k) (first, second)
  at_catch k first second less (inl w) =
      let is = is_named k first second w in
      has_of_each (pair_of (name_of k)) (named k) second (first, second) is.1 (subst (λ n. Contains (pair_of n second) (first, second)) (sym is.0) (first_is_less first second less))
  at_catch k first second less (inr w) =
      let is = is_named k second first w in
      has_of_each (pair_of (name_of k)) (named k) first (first, second) is.1 (subst (λ n. Contains (pair_of n first) (first, second)) (sym is.0) (second_is_less second first less))

  -- of the pairs that are collected each once are listed those that are joined, the lesser name first
  pub listed_joined : (branch : List Catch) (pairs : List Pair) → IsInOrder (flat_map paired branch) pairs → (first second : List ℕ) → Contains pairs (first, second) ↔ ((by_name first second ≡ Less) × AreJoined branch first second)
  listed_joined branch pairs all first second = (
    λ c. collected_joined branch (first, second) (all.has_no_other (first, second) c),
    λ w. all.has (first, second) (has_of_each paired branch w.1.0 (first, second) w.1.1 (at_catch w.1.0 first second w.0 w.1.2)),
  )

-- the pairs that are collected, each once, in ascending order
pub conflicts_by : (branch : List Catch) (pairs : List Pair) → IsInOrder (pairs_in branch) pairs → AreConflicts branch pairs
conflicts_by branch pairs all = record {
  ascending = all.ascending;
  listed = listed_joined names_against (λ first second k. (name_of k ≡ first) × ConflictsWith k second) (λ k name c. (refl, against k name c)) (λ k first second w. (w.0, is_against k second w.1)) branch pairs all;
}

both_list : (branch : List Catch) (pairs others : List Pair) → AreConflicts branch pairs → AreConflicts branch others → Within pairs others
both_list branch pairs others are also p c =
    (also.listed p.0 p.1).1 ((are.listed p.0 p.1).0 c)

pub conflicts_are_determined : ConflictsAreDetermined
conflicts_are_determined branch =
    let all = in_order (pairs_in branch) in
    let are = conflicts_by branch all.0 all.1 in
    (all.0, are, λ other also. ascending_once other all.0 also.ascending are.ascending (both_list branch other all.0 also are) (both_list branch all.0 other are also))

-- the name of the patch of a member
abbrev pub member_name : ContextedPatch → List ℕ
member_name x = x.patch.name

names_by_index : (es : List (Key × ContextedPatch)) → ((i : ℕ) (k : Key) (x : ContextedPatch) → slice_get es i ≡ Some (k, x) → k ≡ context_key x) → map (λ key. key.name) (map (λ (e : Key × ContextedPatch). e.0) es) ≡ map member_name (map (λ (e : Key × ContextedPatch). e.1) es)
names_by_index [] own = refl
names_by_index (e ∷ es) own =
    λ t. (own 0 e.0 e.1 refl t).name ∷ names_by_index es (λ i k x is. own (suc i) k x is) t

-- the names of the labels are those of the members
pub names_of_members : (xs : ContextedPatches) → AreKeyed xs → names_within xs ≡ map member_name (members_of xs)
names_of_members xs keyed =
    names_by_index (entries xs) (λ i k x is. keyed k x (get-entries xs k ∙ found_at key_cmp key_total (entries xs) i k x is (entries_sorted xs)))

-- the pairs of a name with those of one more member
pub one_more_paired : (name : List ℕ) (members : List ContextedPatch) (i : ℕ) (x : ContextedPatch) (old list next : List Pair) → slice_get members i ≡ Some x → list ≡ old ++ flat_map (pair_of name) (map member_name (take i members)) → next ≡ list ++ pair_of name (member_name x) → next ≡ old ++ flat_map (pair_of name) (map member_name (take (i + 1) members))
one_more_paired name members i x old list next at was becomes =
    let grown : map member_name (take (i + 1) members) ≡ map member_name (take i members) ++ member_name x ∷ [] =
    ap (map member_name) (take_push members i x at) ∙ map-append member_name (take i members) (x ∷ []) in
    becomes ∙ ap (λ l. l ++ pair_of name (member_name x)) was ∙ flat_map_more (pair_of name) old (map member_name (take i members)) (member_name x) ∙ ap (λ names. old ++ flat_map (pair_of name) names) (sym grown)

pub all_paired : (name : List ℕ) (xs : ContextedPatches) (i n : ℕ) (old list : List Pair) → AreKeyed xs → n ≡ len xs → n ≤ i → list ≡ old ++ flat_map (pair_of name) (map member_name (take i (members_of xs))) → list ≡ old ++ flat_map (pair_of name) (names_within xs)
all_paired name xs i n old list keyed counted past was =
    let long = count_of_members xs in
    let whole : take i (members_of xs) ≡ members_of xs = take_all i (members_of xs) (omega arith) in
    was ∙ ap (λ l. old ++ flat_map (pair_of name) l) (ap (map member_name) whole ∙ sym (names_of_members xs keyed))

-- each index below the number of members has a member
pub some_member : {A : Type 0} (xs : ContextedPatches) (i n : ℕ) → n ≡ len xs → i < n → slice_get (members_of xs) i ≡ None → A
some_member xs i n counted within none = absurd (elim (slice_get_cases (members_of xs) i).1 [
  | inl there ↦ none-some there.0 (sym none ∙ there.2)
  | inr past ↦ omega (arith, past.0, count_of_members xs)
])
