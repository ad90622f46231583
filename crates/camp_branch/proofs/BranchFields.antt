-- The fields of a branch: its list with the recorded catches appended, and its index.
use Rattle.camp_branch.proofs.Words.{◌≡◌, ◌≤◌, ◌<◌, ℕ, ◌+◌, Bool, false, cond, ◌||◌, Option, Some, List, [], ◌∷◌, ◌++◌, map, length, slice_index_or, is_some, bytes_eq, refl, sym, ap, ◌∙◌, subst, arith, append-nil, append_assoc, drop_all, take_all, is_eq-slice_cmp, splice, nat_cmp, eq_by_cmp, slice_cmp, nat_list_cmp_total, FinMap, contains_key, get, empty, get-empty, get-insert, insert, Primitive, FitsAll, Catch, Plain, Files, IsLawfulBranch, LeadsTo, has_patch, is_among, name_of, recorded, AppliesEach, drop_more, drop, or-false, or_self, cond_both, or_right}
use Rattle.camp_branch.proofs.BranchLabels.{recorded_patches}
use Rattle.camp_branch.proofs.BranchTrees.{joined_fits, one_end, recorded_tree}
use Rattle.camp_branch.proofs.EffectSteps.{second_fits}
use Rattle.camp_branch.proofs.Names.{has_split}

-- a set of names
abbrev pub Names : Type 0
Names = FinMap (slice_cmp nat_cmp) (Unit {0})

-- the names are those of the patches
abbrev pub Indexes : Names → List Catch → Type 0
Indexes names branch = (name : List ℕ) → contains_key names name ≡ has_patch branch name

pub none_indexed : (names : Names) → names ≡ empty → Indexes names []
none_indexed names is name = ap (λ m. contains_key m name) is ∙ ap is_some (get-empty (slice_cmp nat_cmp) name)

is_some_of : {X : Type 0} (b : Bool) (x : X) (o : Option X) → is_some (cond b (Some x) o) ≡ (is_some o || b)
is_some_of b x o =
    cond_both b (Some x) o (λ y. is_some y ≡ (is_some o || b)) (λ e. sym (or_right (is_some o) b e)) (λ e. sym (ap (λ c. is_some o || c) e ∙ or-false (is_some o)))

-- a name more
pub contains_more : (names : Names) (added name : List ℕ) → contains_key (insert names added tt) name ≡ (contains_key names name || bytes_eq name added)
contains_more names added name =
    ap is_some (get-insert nat_list_cmp_total names added tt name) ∙ is_some_of (eq_by_cmp (slice_cmp nat_cmp) name added) tt (get names name) ∙ ap (λ b. contains_key names name || b) (is_eq-slice_cmp name added)

-- all recorded catches have one name
among_recorded : (name added : List ℕ) (place : ℕ) (changes : List Primitive) → 1 ≤ length changes → is_among (map name_of (recorded added place changes)) name ≡ bytes_eq name added
among_recorded name added place [] some = absurd (omega arith)
among_recorded name added place (change ∷ []) some = or-false (bytes_eq name added)
among_recorded name added place (change ∷ more ∷ changes) some =
    ap (λ b. bytes_eq name added || b) (among_recorded name added (place + 1) (more ∷ changes) (omega arith)) ∙ or_self (bytes_eq name added)

pub recorded_indexed : (names more : Names) (branch grown : List Catch) (added : List ℕ) (changes : List Primitive) → Indexes names branch → more ≡ insert names added tt → grown ≡ branch ++ recorded added 1 changes → 1 ≤ length changes → Indexes more grown
recorded_indexed names more branch grown added changes indexed becomes pushed some name =
    ap (λ m. contains_key m name) becomes ∙ contains_more names added name ∙ (λ i. indexed name i || sym (among_recorded name added 1 changes some) i) ∙ sym (ap (λ l. has_patch l name) pushed ∙ has_split branch (recorded added 1 changes) name)

pub lawful_none : IsLawfulBranch []
lawful_none =
    record { patches = []; has = record { distinct = tt; sized = tt; labels = refl }; tree = empty; leads = refl }

-- the branch after a record
pub record Grown (branch : List Catch) (tree : Files) : Type 0 where
  pub lawful : IsLawfulBranch branch
  pub kept : LeadsTo branch tree

pub grown : (branch more : List Catch) (name : List ℕ) (changes : List Primitive) (old new : Files) → IsLawfulBranch branch → LeadsTo branch old → has_patch branch name ≡ false → 1 ≤ length changes → length changes ≤ 64 → AppliesEach changes old new → more ≡ branch ++ recorded name 1 changes → Grown more new
grown branch more name changes old new lawful leads new_name some few applies is =
    let has = recorded_patches branch lawful.patches name changes lawful.has new_name some few in
    let tree = recorded_tree branch name changes old new leads applies in
    record {
      lawful = subst IsLawfulBranch (sym is) (record { patches = lawful.patches ++ record { name = name; changes = length changes } ∷ []; has = has; tree = new; leads = tree });
      kept = subst (λ l. LeadsTo l new) (sym is) tree;
    }

-- of some changes, those of the rest are still to be recorded
pub one_recorded : (list next : List Catch) (name : List ℕ) (place i : ℕ) (changes : List Primitive) (change d : Primitive) (k : Catch) (aim : List Catch) → i < length changes → change ≡ slice_index_or changes i d → k ≡ Plain (record { name = name; place = place; inverse = false; prim = change }) → next ≡ list ++ k ∷ [] → list ++ recorded name place (drop i changes) ≡ aim → next ++ recorded name (place + 1) (drop (i + 1) changes) ≡ aim
one_recorded list next name place i changes change d k aim within item is pushed so_far =
    let rest = recorded name (place + 1) (drop (i + 1) changes) in
    let there : drop i changes ≡ change ∷ drop (i + 1) changes = drop_more changes i d within ∙ ap (λ x. x ∷ drop (i + 1) changes) (sym item) in
    (λ j. pushed j ++ rest) ∙ append_assoc list (k ∷ []) rest ∙ ap (λ x. list ++ x ∷ rest) is ∙ ap (λ l. list ++ recorded name place l) (sym there) ∙ so_far

-- a patch of one change is one catch
pub one_alone : (catches next : List Catch) (name : List ℕ) (changes : List Primitive) (change d : Primitive) (k : Catch) → length changes ≡ 1 → change ≡ slice_index_or changes 0 d → k ≡ Plain (record { name = name; place = 1; inverse = false; prim = change }) → next ≡ catches ++ k ∷ [] → next ≡ catches ++ recorded name 1 changes
one_alone catches next name [] change d k one item is pushed = absurd (omega (arith, one))
one_alone catches next name (c ∷ []) change d k one item is pushed =
    pushed ∙ ap (λ x. catches ++ x ∷ []) (is ∙ ap (λ p. Plain (record { name = name; place = 1; inverse = false; prim = p })) item)
one_alone catches next name (c ∷ more ∷ changes) change d k one item is pushed = absurd (omega (arith, one))

spliced_at_end : (catches taken : List Catch) (n : ℕ) → n ≡ length catches → splice catches n n taken ≡ catches ++ taken
spliced_at_end catches taken n is =
    (λ i. take_all n catches (omega (is, arith)) i ++ (taken ++ drop_all n catches (omega (is, arith)) i)) ∙ ap (λ t. catches ++ t) (append-nil taken)

pub appended : (catches own taken next : List Catch) (n : ℕ) → n ≡ length catches → catches ≡ own → next ≡ splice catches n n taken → next ≡ own ++ taken
appended catches own taken next n is was becomes =
    becomes ∙ spliced_at_end catches taken n is ∙ ap (λ l. l ++ taken) was

-- if catches fit the tree of a branch, the branch with them appended fits
pub taken_fits : (catches own taken : List Catch) (tree : Files) → catches ≡ own → LeadsTo catches tree → IsLawfulBranch (own ++ taken) → (after : Files) × FitsAll taken tree after
taken_fits catches own taken tree was leads lawful =
    let parts = second_fits own taken empty lawful.tree lawful.leads in
    let same = one_end own empty parts.0 tree parts.1 (subst (λ l. LeadsTo l tree) was leads) in
    (lawful.tree, subst (λ t. FitsAll taken t lawful.tree) same parts.2)

pub taken_lead : (catches own taken next : List Catch) (old new : Files) → catches ≡ own → next ≡ own ++ taken → LeadsTo catches old → FitsAll taken old new → LeadsTo next new
taken_lead catches own taken next old new was becomes leads fits =
    subst (λ l. LeadsTo l new) (sym becomes) (joined_fits own taken empty old new (subst (λ l. LeadsTo l old) was leads) fits)

pub taken_indexed : (names all : Names) (catches own taken next : List Catch) → Indexes names catches → catches ≡ own → ((name : List ℕ) → contains_key all name ≡ (contains_key names name || is_among (map name_of taken) name)) → next ≡ own ++ taken → Indexes all next
taken_indexed names all catches own taken next indexed was grown becomes name =
    grown name ∙ ap (λ b. b || is_among (map name_of taken) name) (indexed name ∙ ap (λ l. has_patch l name) was) ∙ sym (ap (λ l. has_patch l name) becomes ∙ has_split own taken name)
