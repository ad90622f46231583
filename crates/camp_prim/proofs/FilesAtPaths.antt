-- The file at a path of a tree, and trees with that file changed.
use Rattle.camp_prim.proofs.Words.{◌≡◌, ◌≢◌, ℕ, Bool, true, false, cond, List, Option, None, Some, refl, sym, ap, ◌∙◌, nat_cmp, eq_by_cmp, is_eq, Equal-is, slice_cmp, get, insert, remove, get-insert, get-remove, same_map, slice_cmp-IsAntisymmetric, nat_cmp-IsAntisymmetric, nat_list_cmp_total, tied_itself, Lines, Files}

pub same_path : (q p : List ℕ) → eq_by_cmp (slice_cmp nat_cmp) q p ≡ true → q ≡ p
same_path q p e = slice_cmp-IsAntisymmetric nat_cmp-IsAntisymmetric q p ((Equal-is (slice_cmp nat_cmp q p)).0 e)

pub path_itself : (p : List ℕ) → eq_by_cmp (slice_cmp nat_cmp) p p ≡ true
path_itself p = ap is_eq (tied_itself nat_list_cmp_total p)

pub same_files : (m n : Files) → ((q : List ℕ) → get m q ≡ get n q) → m ≡ n
same_files m n same = same_map nat_list_cmp_total (slice_cmp-IsAntisymmetric nat_cmp-IsAntisymmetric) m n same

-- the tree with this file, or none, at a path, and all else as in the tree
abbrev pub with_file : Files → List ℕ → Option Lines → Files
with_file m p None = remove m p
with_file m p (Some lines) = insert m p lines

pub get-with_file : (m : Files) (p : List ℕ) (x : Option Lines) (q : List ℕ) → get (with_file m p x) q ≡ cond (eq_by_cmp (slice_cmp nat_cmp) q p) x (get m q)
get-with_file m p None q = get-remove nat_list_cmp_total m p q
get-with_file m p (Some lines) q = get-insert nat_list_cmp_total m p lines q

pub get-with_file_same : (m : Files) (p : List ℕ) (x : Option Lines) → get (with_file m p x) p ≡ x
get-with_file_same m p x = get-with_file m p x p ∙ ap (λ b. cond b x (get m p)) (path_itself p)

at_other : (b : Bool) (p q : List ℕ) (x y : Option Lines) → eq_by_cmp (slice_cmp nat_cmp) q p ≡ b → p ≢ q → cond b x y ≡ y
at_other true p q x y e apart = absurd (apart (sym (same_path q p e)))
at_other false p q x y e apart = refl

pub get-with_file_other : (m : Files) (p q : List ℕ) (x : Option Lines) → p ≢ q → get (with_file m p x) q ≡ get m q
get-with_file_other m p q x apart = get-with_file m p x q ∙ at_other _ p q x (get m q) refl apart

own_at : (m : Files) (p q : List ℕ) (b : Bool) → eq_by_cmp (slice_cmp nat_cmp) q p ≡ b → cond b (get m p) (get m q) ≡ get m q
own_at m p q true e = ap (get m) (sym (same_path q p e))
own_at m p q false e = refl

-- setting a path to the file that it has changes nothing
pub with_own_file : (m : Files) (p : List ℕ) → with_file m p (get m p) ≡ m
with_own_file m p = same_files _ _ (λ q. get-with_file m p (get m p) q ∙ own_at m p q _ refl)

cond_twice : (b : Bool) (x y z : Option Lines) → cond b y (cond b x z) ≡ cond b y z
cond_twice true x y z = refl
cond_twice false x y z = refl

pub with_file_twice : (m : Files) (p : List ℕ) (x y : Option Lines) → with_file (with_file m p x) p y ≡ with_file m p y
with_file_twice m p x y = same_files _ _ (λ q.
    get-with_file (with_file m p x) p y q
    ∙ ap (λ z. cond (eq_by_cmp (slice_cmp nat_cmp) q p) y z) (get-with_file m p x q)
    ∙ cond_twice (eq_by_cmp (slice_cmp nat_cmp) q p) x y (get m q)
    ∙ sym (get-with_file m p y q))

cond_apart : (a b : Bool) (x y z : Option Lines) → (a ≡ true → b ≡ true → ⊥) → cond b y (cond a x z) ≡ cond a x (cond b y z)
cond_apart true true x y z apart = absurd (apart refl refl)
cond_apart true false x y z apart = refl
cond_apart false b x y z apart = refl

pub with_files_apart : (m : Files) (p q : List ℕ) (x y : Option Lines) → p ≢ q → with_file (with_file m p x) q y ≡ with_file (with_file m q y) p x
with_files_apart m p q x y apart = same_files _ _ (λ r.
    get-with_file (with_file m p x) q y r
    ∙ ap (λ z. cond (eq_by_cmp (slice_cmp nat_cmp) r q) y z) (get-with_file m p x r)
    ∙ cond_apart (eq_by_cmp (slice_cmp nat_cmp) r p) (eq_by_cmp (slice_cmp nat_cmp) r q) x y (get m r) (λ e f. apart (sym (same_path r p e) ∙ same_path r q f))
    ∙ ap (λ z. cond (eq_by_cmp (slice_cmp nat_cmp) r p) x z) (sym (get-with_file m q y r))
    ∙ sym (get-with_file (with_file m q y) p x r))
