-- Sets of names, a name more or less at a time.
use Rattle.camp_branch.proofs.Words.{◌≡◌, ◌<◌, ◌+◌, ℕ, Result, Ok, Err, IfOk, Bool, true, false, not, cond, ◌||◌, ◌&&◌, Option, None, List, [], ◌∷◌, map, drop, length, get_or, is_some, bytes_eq, refl, sym, ap, ◌∙◌, is_eq-slice_cmp, list_any, nat_cmp, eq_by_cmp, slice_cmp, nat_list_cmp_total, contains_key, contains_key-keys, empty, get, get-empty, get-remove, insert, remove, keys, Catch, stands_at, is_among, name_of, or_assoc, cond_both, and_right}
use Rattle.camp_branch.proofs.BranchFields.{Names, contains_more}
use Rattle.camp_branch.proofs.Names.{same_name}
pub use Rattle.std.proofs.Math.Bool.{and-false as and_false, and-true as and_true, or-false as or_none}

-- a name comes into a set, which may have it
abbrev pub with_name : Names → List ℕ → Names
with_name names added = cond (contains_key names added) names (insert names added tt)

has_already : (h e : Bool) → (e ≡ true → h ≡ true) → h ≡ (h || e)
has_already true e has = refl
has_already false true has = has refl
has_already false false has = refl

pub contains_with : (names : Names) (added name : List ℕ) → contains_key (with_name names added) name ≡ (contains_key names name || bytes_eq name added)
contains_with names added name =
    cond_both (contains_key names added) names (insert names added tt) (λ (m : Names). contains_key m name ≡ (contains_key names name || bytes_eq name added))
    (λ e. has_already (contains_key names name) (bytes_eq name added) (λ same. ap (contains_key names) (same_name name added same) ∙ e))
    (λ e. contains_more names added name)

-- the names that a set lists
abbrev pub Entries : Type 0
Entries = List (List ℕ × Unit {0})

abbrev pub listed : Entries → List ℕ → Bool
listed entries name = is_among (map (λ e. e.0) entries) name

none_or_other : {X : Type 0} (b : Bool) (o : Option X) → is_some (cond b None o) ≡ (is_some o && not b)
none_or_other b o =
    cond_both b None o (λ x. is_some x ≡ (is_some o && not b)) (λ e. sym (and_right (is_some o) (not b) (ap not e))) (λ e. sym (ap (λ c. is_some o && not c) e ∙ and_true (is_some o)))

-- a name less
pub contains_less : (names : Names) (gone name : List ℕ) → contains_key (remove names gone) name ≡ (contains_key names name && not (bytes_eq name gone))
contains_less names gone name =
    ap is_some (get-remove nat_list_cmp_total names gone name) ∙ none_or_other (eq_by_cmp (slice_cmp nat_cmp) name gone) (get names name) ∙ ap (λ b. contains_key names name && not b) (is_eq-slice_cmp name gone)

-- a set has what it lists
pub has_listed : (names : Names) (name : List ℕ) → contains_key names name ≡ is_among (keys names) name
has_listed names name = contains_key-keys names name ∙ ap (λ p. list_any p (keys names)) (λ i other. is_eq-slice_cmp name other i)

and_not : (a b c : Bool) → ((a && not b) && not c) ≡ (a && not (b || c))
and_not true true c = refl
and_not true false c = refl
and_not false b c = refl

-- of a set, some names are still to go
abbrev pub IsLessened : Names → Entries → (List ℕ → Bool) → Type 0
IsLessened left rest aim = (name : List ℕ) → (contains_key left name && not (listed rest name)) ≡ aim name

pub one_goes : (left next : Names) (rest more : Entries) (entry : List ℕ × Unit {0}) (aim : List ℕ → Bool) → IsLessened left rest aim → rest ≡ entry ∷ more → next ≡ remove left entry.0 → IsLessened next more aim
one_goes left next rest more entry aim inv is becomes name =
    ap (λ m. contains_key m name && not (listed more name)) becomes ∙ ap (λ b. b && not (listed more name)) (contains_less left entry.0 name) ∙ and_not (contains_key left name) (bytes_eq name entry.0) (listed more name) ∙ ap (λ r. contains_key left name && not (listed r name)) (sym is) ∙ inv name

-- of a set, some names are still to come
abbrev pub IsFilled : Names → List (List ℕ) → (List ℕ → Bool) → Type 0
IsFilled set rest aim = (name : List ℕ) → (contains_key set name || is_among rest name) ≡ aim name

joined : (set next : Names) (n : List ℕ) (rest : List (List ℕ)) (aim : List ℕ → Bool) → IsFilled set (n ∷ rest) aim → ((name : List ℕ) → contains_key next name ≡ (contains_key set name || bytes_eq name n)) → IsFilled next rest aim
joined set next n rest aim inv has name =
    ap (λ b. b || is_among rest name) (has name) ∙ or_assoc (contains_key set name) (bytes_eq name n) (is_among rest name) ∙ inv name

pub one_comes : (all next : Names) (taken : List Catch) (i : ℕ) (k d : Catch) (named : List ℕ) (aim : List ℕ → Bool) → IsFilled all (map name_of (drop i taken)) aim → i < length taken → k ≡ get_or taken i d → named ≡ name_of k → next ≡ insert all named tt → IsFilled next (map name_of (drop (i + 1) taken)) aim
one_comes all next taken i k d named aim inv within is called becomes =
    joined all next (name_of k) (map name_of (drop (i + 1) taken)) aim
    (λ name. ap (λ r. contains_key all name || is_among (map name_of r) name) (sym (stands_at taken i d k within is)) ∙ inv name)
    (λ name. ap (λ m. contains_key m name) (becomes ∙ ap (λ n. insert all n tt) called) ∙ contains_more all (name_of k) name)

-- the first of some catches comes into a set, and then the others
pub first_comes : (set next all : Names) (taken : List Catch) (k d : Catch) (named name : List ℕ) → 0 < length taken → k ≡ get_or taken 0 d → named ≡ name_of k → next ≡ insert set named tt → contains_key all name ≡ (contains_key next name || is_among (map name_of (drop 1 taken)) name) → contains_key all name ≡ (contains_key set name || is_among (map name_of taken) name)
first_comes set next all taken k d named name within is called becomes has =
    has
    ∙ ap (λ m. contains_key m name || is_among (map name_of (drop 1 taken)) name) (becomes ∙ ap (λ n. insert set n tt) called)
    ∙ ap (λ b. b || is_among (map name_of (drop 1 taken)) name) (contains_more set (name_of k) name)
    ∙ or_assoc (contains_key set name) (bytes_eq name (name_of k)) (is_among (map name_of (drop 1 taken)) name)
    ∙ ap (λ l. contains_key set name || is_among (map name_of l) name) (sym (stands_at taken 0 d k within is))

-- what holds of a value, if there is one, entails another fact of it
pub entails : {T E : Type 0} (result : Result T E) (P Q : T → Type 0) → ((x : T) → P x → Q x) → IfOk result P → IfOk result Q
entails (Ok x) P Q then holds = then x holds
entails (Err e) P Q then holds = holds

pub one_added : (set next : Names) (n : List ℕ) (rest : List (List ℕ)) (aim : List ℕ → Bool) → IsFilled set (n ∷ rest) aim → next ≡ with_name set n → IsFilled next rest aim
one_added set next n rest aim inv becomes =
    joined set next n rest aim inv (λ name. ap (λ m. contains_key m name) becomes ∙ contains_with set n name)

-- the name at an index is inserted into the set
pub one_listed : (set next : Names) (names : List (List ℕ)) (i : ℕ) (n d : List ℕ) (aim : List ℕ → Bool) → IsFilled set (drop i names) aim → i < length names → n ≡ get_or names i d → next ≡ with_name set n → IsFilled next (drop (i + 1) names) aim
one_listed set next names i n d aim inv within is becomes =
    one_added set next n (drop (i + 1) names) aim
    (λ name. ap (λ r. contains_key set name || is_among r name) (sym (stands_at names i d n within is)) ∙ inv name) becomes

-- at first all are still to come
pub none_filled : (set : Names) (rest : List (List ℕ)) → set ≡ empty → IsFilled set rest (is_among rest)
none_filled set rest is name =
    ap (λ b. b || is_among rest name) (ap (λ m. contains_key m name) is ∙ ap is_some (get-empty (slice_cmp nat_cmp) name))

-- in the end the set has all of them
pub all_filled : (set : Names) (rest : List (List ℕ)) (aim : List ℕ → Bool) → rest ≡ [] → IsFilled set rest aim → (name : List ℕ) → is_among (keys set) name ≡ aim name
all_filled set rest aim is inv name =
    sym (has_listed set name) ∙ sym (or_none (contains_key set name)) ∙ ap (λ r. contains_key set name || is_among r name) (sym is) ∙ inv name
