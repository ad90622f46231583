-- Commuting and merging keep labels, and so do arranging, aligning and merging lists.
use Rattle.camp_catch.proofs.Words.{List, [], ap, append-nil, inl, inr, map, refl, subst, sym, ℕ, ◌++◌, ◌∙◌, ◌∷◌, ◌≡◌, append_assoc, map-append, inverse_of, key_of, label_of, Key, Named, row_passes, MergesOne, Passes, PassesAll, same_key_of_sum, same_alone, AddsToContext, PassesBy, PassesByAll, ContextedPatch, bare, context_key, patch_key, Align, ArrangesAfter, CatchCommutesBeforeAll, CatchMovesToFront, catch_key, CommuteCatch, KeepLabels, KeysAlign, KeysPart, keys_of, JoinsWhere, MergeCatch, MergePlainConflictor, MergeLists, MergesWithAll, Catch, Plain, Conflictor}

passed_key : (p : Named) (s s' : List Named) (p' : Named) → Passes p s s' p' → patch_key p' ≡ patch_key p
passed_key p [] s' p' w = ap patch_key w.1
passed_key p (q ∷ s) s' p' w = passed_key w.1 s w.2 p' w.4 ∙ ap key_of w.3.anywhere.first

passed_labels : (p : Named) (s s' : List Named) (p' : Named) → Passes p s s' p' → map label_of s' ≡ map label_of s
passed_labels p [] s' p' w = ap (map label_of) w.0
passed_labels p (q ∷ s) s' p' w =
    let rest = passed_labels w.1 s w.2 p' w.4 in
    ap (map label_of) w.5 ∙ (λ t. w.3.anywhere.second t ∷ rest t)

all_passed_labels : (r s s' r' : List Named) → PassesAll r s s' r' → map label_of s' ≡ map label_of s
all_passed_labels [] s s' r' w = ap (map label_of) w.0
all_passed_labels (p ∷ r) s s' r' w = passed_labels p w.0 s' w.1 w.4 ∙ all_passed_labels r s w.0 w.2 w.3

passed_by_all_key : (r : List Named) (b b' : Named) (left : List Named) → PassesAll r (b ∷ []) (b' ∷ []) left → patch_key b' ≡ patch_key b
passed_by_all_key r b b' left w = ap key_of (same_alone _ _ (all_passed_labels r (b ∷ []) (b' ∷ []) left w))

merged_key : (a : Named) (s s' : List Named) (a' : Named) → MergesOne a s s' a' → patch_key a' ≡ patch_key a
merged_key a s s' a' w = passed_key (inverse_of a) s s' (inverse_of a') (row_passes a s s' a' w)

added_key : (a : Named) (x y : ContextedPatch) → AddsToContext a x y → context_key y ≡ context_key x
added_key a x y w = same_key_of_sum (a ∷ []) x y (x, refl, w)

passed_context_key : (a : Named) (x y : ContextedPatch) → PassesBy a x y → context_key y ≡ context_key x
passed_context_key a x y w = ap key_of w.past_patch.anywhere.second

passed_all_key : (r : List Named) (x y : ContextedPatch) → PassesByAll r x y → context_key y ≡ context_key x
passed_all_key [] x y w = ap context_key w
passed_all_key (a ∷ r) x y w = passed_context_key a w.0 y w.2 ∙ passed_all_key r x w.0 w.1

-- both labels are unchanged
abbrev pub KeepKeys : Catch → Catch → Catch → Catch → Type 0
KeepKeys j k k' j' = (catch_key k' ≡ catch_key k) × (catch_key j' ≡ catch_key j)

pub commuted_keys : (j k k' j' : Catch) → CommuteCatch j k k' j' → KeepKeys j k k' j'
commuted_keys (Plain a) (Plain b) k' j' w =
    (ap catch_key w.second ∙ ap key_of w.swap.anywhere.second, ap catch_key w.first ∙ ap key_of w.swap.anywhere.first)
commuted_keys (Plain a) (Catch.Conflictor k) k' j' (inl w) =
    (ap catch_key w.second ∙ passed_context_key w.a' k.identity w.moved.identity w.becomes.identity, ap catch_key w.first ∙ passed_key a k.effect w.passed w.a' w.passes)
commuted_keys (Plain a) (Catch.Conflictor k) k' j' (inr (inl w)) =
    (ap catch_key w.second ∙ ap (λ (c : Conflictor). context_key c.identity) (sym w.is), ap catch_key w.first)
commuted_keys (Plain a) (Catch.Conflictor k) k' j' (inr (inr w)) =
    (ap catch_key w.second, ap catch_key w.first ∙ w.named)
commuted_keys (Catch.Conflictor j) (Plain b) k' j' w =
    (ap catch_key w.second ∙ passed_by_all_key j.effect b w.b' w.left w.passes, ap catch_key w.first ∙ passed_context_key (inverse_of b) j.identity w.moved.identity w.becomes.identity)
commuted_keys (Catch.Conflictor j) (Catch.Conflictor k) k' j' (inl w) =
    (ap catch_key w.second ∙ passed_all_key w.rr' k.identity w.moved.identity w.becomes.identity, ap catch_key w.first ∙ same_key_of_sum _ j.identity w.own.identity w.own_becomes.identity)
commuted_keys (Catch.Conflictor j) (Catch.Conflictor k) k' j' (inr (inl w)) =
    (ap catch_key w.second ∙ same_key_of_sum j.effect k.identity (bare w.a) w.becomes, ap catch_key w.first)
commuted_keys (Catch.Conflictor j) (Catch.Conflictor k) k' j' (inr (inr w)) =
    (ap catch_key w.second ∙ same_key_of_sum w.rr' k.identity w.moved.identity w.becomes.identity, ap catch_key w.first ∙ same_key_of_sum _ j.identity w.own.identity w.own_becomes.identity)

beside_or_joined : (a : Named) (k : Conflictor) (k' j' : Catch) → MergePlainConflictor a k k' j' → KeepKeys (Plain a) (Catch.Conflictor k) k' j'
beside_or_joined a k k' j' (inl w) =
    (ap catch_key w.after ∙ added_key _ k.identity w.moved.identity w.becomes.identity, ap catch_key w.beside ∙ merged_key a k.effect w.merged w.a' w.merge)
beside_or_joined a k k' j' (inr w) =
    (ap catch_key w.after, ap catch_key w.beside ∙ same_key_of_sum _ (bare a) w.z w.becomes)

-- a conflictor keeps its label when another catch joins its conflicts
joined_key : (Holds : Type 0) (l : ContextedPatch) (j k : Conflictor) → JoinsWhere Holds l j k → context_key k.identity ≡ context_key j.identity
joined_key Holds l j k (inl w) = ap (λ (c : Conflictor). context_key c.identity) w.1
joined_key Holds l j k (inr w) = ap (λ (c : Conflictor). context_key c.identity) w.1

pub merged_keys : (j k k' j' : Catch) → MergeCatch j k k' j' → KeepKeys j k k' j'
merged_keys (Plain a) (Plain b) k' j' (inl w) =
    (ap catch_key w.after ∙ ap key_of w.merge.anywhere.second, ap catch_key w.beside ∙ ap key_of w.merge.anywhere.first)
merged_keys (Plain a) (Plain b) k' j' (inr w) = (ap catch_key w.after, ap catch_key w.beside)
merged_keys (Plain a) (Catch.Conflictor k) k' j' w = beside_or_joined a k k' j' w
merged_keys (Catch.Conflictor j) (Plain b) k' j' w =
    let both = beside_or_joined b j j' k' w in
    (both.1, both.0)
merged_keys (Catch.Conflictor j) (Catch.Conflictor k) k' j' w =
    (ap catch_key w.after ∙ joined_key _ _ w.moved w.joined w.joins ∙ same_key_of_sum _ k.identity w.moved.identity w.becomes.identity, ap catch_key w.beside ∙ joined_key _ _ w.own w.own_joined w.own_joins ∙ same_key_of_sum _ j.identity w.own.identity w.own_becomes.identity)

before_keys : (list : List Catch) (k k' : Catch) (list' : List Catch) → CatchCommutesBeforeAll list k k' list' → (catch_key k' ≡ catch_key k) × (keys_of list' ≡ keys_of list)
before_keys [] k k' list' w = (ap catch_key w.0, ap keys_of w.1)
before_keys (j ∷ list) k k' list' w =
    let rest = before_keys list k w.0 w.2 w.3 in
    let pair = commuted_keys j w.0 k' w.1 w.4 in
    (pair.0 ∙ rest.0, ap keys_of w.5 ∙ (λ t. pair.1 t ∷ rest.1 t))

-- the other catches of a list come after those of another list
parts_behind : (names : List (List ℕ)) (rest list first others : List Catch) → ArrangesAfter names rest list first others → (t : List Key) × KeysPart names (keys_of list) (keys_of first) t × (keys_of others ≡ keys_of rest ++ t)
parts_behind names rest [] first others w =
    ([], (ap keys_of w.0, refl), ap keys_of w.1 ∙ sym (append-nil (keys_of rest)))
parts_behind names rest (k ∷ list) first others (inl w) =
    let come = w.1 in
    let keys = before_keys rest k come.0 come.1 come.3 in
    let more = parts_behind names come.1 list come.2 others come.4 in
    (more.0, inl (w.0, (keys_of come.2, more.1, ap keys_of come.5 ∙ ap (λ x. x ∷ keys_of come.2) keys.0)), more.2 ∙ ap (λ x. x ++ more.0) keys.1)
parts_behind names rest (k ∷ list) first others (inr w) =
    let more = parts_behind names (rest ++ k ∷ []) list first others w.1 in
    (catch_key k ∷ more.0, inr (w.0, (more.0, more.1, refl)), more.2 ∙ ap (λ x. x ++ more.0) (map-append catch_key rest (k ∷ [])) ∙ append_assoc (keys_of rest) (catch_key k ∷ []) more.0)

arranged_keys : (names : List (List ℕ)) (list first rest : List Catch) → ArrangesAfter names [] list first rest → KeysPart names (keys_of list) (keys_of first) (keys_of rest)
arranged_keys names list first rest w =
    let parts = parts_behind names [] list first rest w in
    subst (KeysPart names (keys_of list) (keys_of first)) (sym parts.2) parts.1

first_keys : (key : Key) (list : List Catch) (k' : Catch) (others : List Catch) → CatchMovesToFront key list k' others → (before : List Key) × (after : List Key) × (catch_key k' ≡ key) × (keys_of list ≡ before ++ key ∷ after) × (keys_of others ≡ before ++ after)
first_keys key [] k' others w = absurd w
first_keys key (j ∷ list) k' others (inl w) =
    ([], keys_of list, ap catch_key w.1 ∙ w.0, ap (λ x. x ∷ keys_of list) w.0, ap keys_of w.2)
first_keys key (j ∷ list) k' others (inr w) =
    let come = w.1 in
    let rest = first_keys key list come.0 come.2 come.3 in
    let pair = commuted_keys j come.0 k' come.1 come.4 in
    (catch_key j ∷ rest.0, rest.1, pair.0 ∙ rest.2, ap (λ x. catch_key j ∷ x) rest.3, ap keys_of come.5 ∙ (λ t. pair.1 t ∷ rest.4 t))

aligned_keys : (order : List Key) (list aligned : List Catch) → Align order list aligned → KeysAlign order (keys_of list) (keys_of aligned)
aligned_keys [] list aligned w = ap keys_of w
aligned_keys (key ∷ order) list aligned w =
    let first = first_keys key list w.0 w.1 w.3 in
    let rest = aligned_keys order w.1 w.2 w.4 in
    (first.0, first.1, keys_of w.2, first.3, subst (λ x. KeysAlign order x (keys_of w.2)) first.4 rest, ap keys_of w.5 ∙ ap (λ x. x ∷ keys_of w.2) first.2)

with_all_keys : (q : List Catch) (k k' : Catch) (q' : List Catch) → MergesWithAll q k k' q' → (catch_key k' ≡ catch_key k) × (keys_of q' ≡ keys_of q)
with_all_keys [] k k' q' w = (ap catch_key w.0, ap keys_of w.1)
with_all_keys (j ∷ q) k k' q' w =
    let pair = merged_keys j k w.0 w.1 w.3 in
    let rest = with_all_keys q w.0 k' w.2 w.4 in
    (rest.0 ∙ pair.0, ap keys_of w.5 ∙ (λ t. pair.1 t ∷ rest.1 t))

lists_keys : (p q p' q' : List Catch) → MergeLists p q p' q' → (keys_of p' ≡ keys_of p) × (keys_of q' ≡ keys_of q)
lists_keys [] q p' q' w = (ap keys_of w.0, ap keys_of w.1)
lists_keys (k ∷ p) q p' q' w =
    let row = with_all_keys q k w.0 w.1 w.3 in
    let rest = lists_keys p w.1 w.2 q' w.4 in
    (ap keys_of w.5 ∙ (λ t. row.0 t ∷ rest.0 t), rest.1 ∙ row.1)

pub keep_labels : KeepLabels
keep_labels = record { commuted = commuted_keys; merged = merged_keys; arranged = arranged_keys; aligned = aligned_keys; merged_lists = lists_keys }
