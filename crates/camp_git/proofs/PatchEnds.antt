-- The ends of the patches of a branch, by the labels of its catches.
use Rattle.camp_git.proofs.Words.{◌≡◌, ◌∙◌, ◌∷◌, [], ◌++◌, ◌+◌, ◌<◌, ◌≤◌, ℕ, zero, suc, List, drop, take, get_or, length, refl, sym, ap, cond, arith}
use Rattle.std.proofs.Math.Nat.{add-zero, suc-add, zero-add}
use Rattle.std.proofs.lemmas.Bool.{ne_eqb}
use Rattle.std.proofs.lemmas.List.{drop-drop, drop-map, length-append, length-drop, length-map, take-append-drop}
use Rattle.std.specs.List.{AllByRecursion}
use Rattle.camp_prim.specs.declared.labels.Key.{Key}
use Rattle.camp_catch.specs.Catches.{catch_key}
use Rattle.camp_catch.specs.Laws.{keys_of}
use Rattle.camp_catch.specs.declared.catches.Catch.{Catch}
use Rattle.camp_branch.proofs.BranchLabels.{labels_count}
use Rattle.camp_branch.specs.Branches.{IsSized, Patch, labels_from, labels_of, name_of}
use Rattle.camp_git.specs.Inside.Steps.{led_by}

keys_behind : (at n : ℕ) (list : List Catch) → keys_of (drop (at + n) list) ≡ drop n (keys_of (drop at list))
keys_behind at n list = ap keys_of (sym (drop-drop n at list)) ∙ sym (drop-map catch_key n (drop at list))

-- a label with a place from 2 on does not begin a patch
led_from : (name : List ℕ) (place n : ℕ) (rest : List Key) → 2 ≤ place → led_by (labels_from name place n ++ rest) ≡ n + led_by rest
led_from name place zero rest l = sym (zero-add (led_by rest))
led_from name place (suc n) rest l =
    ap (λ b. cond b zero (suc (led_by (labels_from name (place + 1) n ++ rest)))) (ne_eqb place 1 (λ e. omega (arith, l, e)))
    ∙ ap suc (led_from name (place + 1) n rest (omega (arith, l))) ∙ sym (suc-add n (led_by rest))

led_by_none : (name : List ℕ) (n : ℕ) (rest : List Key) → 1 ≤ n → led_by (labels_from name 1 n ++ rest) ≡ 0
led_by_none name zero rest l = absurd (omega (arith, l))
led_by_none name (suc n) rest l = refl

led_by_next : (rest : List Patch) → AllByRecursion IsSized rest → led_by (labels_of rest) ≡ 0
led_by_next [] sized = refl
led_by_next (patch ∷ rest) sized = led_by_none patch.name patch.changes (labels_of rest) sized.0.0

led_in : (name : List ℕ) (n : ℕ) (rest : List Key) → 1 ≤ n → led_by rest ≡ 0 → 1 + led_by (drop 1 (labels_from name 1 n ++ rest)) ≡ n
led_in name zero rest l none = absurd (omega (arith, l))
led_in name (suc n) rest l none =
    let e : led_by (labels_from name 2 n ++ rest) ≡ n = led_from name 2 n rest (omega arith) ∙ ap (λ m. n + m) none ∙ add-zero n in
    omega (arith, e)

-- a patch ends before the next label with place 1
pub patch_ends : (list : List Catch) (at : ℕ) (patch : Patch) (rest : List Patch) → keys_of (drop at list) ≡ labels_of (patch ∷ rest) → IsSized patch → AllByRecursion IsSized rest → at + 1 + led_by (keys_of (drop (at + 1) list)) ≡ at + patch.changes
patch_ends list at patch rest labels size sized =
    let led = ap led_by (keys_behind at 1 list ∙ ap (drop 1) labels) in
    let ends = led_in patch.name patch.changes (labels_of rest) size.0 (led_by_next rest sized) in
    let more : 1 + led_by (keys_of (drop (at + 1) list)) ≡ patch.changes = ap (λ n. 1 + n) led ∙ ends in
    omega (arith, more)

drop_labels : (name : List ℕ) (place n : ℕ) (rest : List Key) → drop n (labels_from name place n ++ rest) ≡ rest
drop_labels name place zero rest = refl
drop_labels name place (suc n) rest = drop_labels name (place + 1) n rest

-- and after it come the labels of the next
pub labels_behind : (list : List Catch) (at : ℕ) (patch : Patch) (rest : List Patch) → keys_of (drop at list) ≡ labels_of (patch ∷ rest) → keys_of (drop (at + patch.changes) list) ≡ labels_of rest
labels_behind list at patch rest labels =
    keys_behind at patch.changes list ∙ ap (drop patch.changes) labels ∙ drop_labels patch.name 1 patch.changes (labels_of rest)

-- the labels of a patch are within those of its branch
pub ends_within : (list : List Catch) (at : ℕ) (patch : Patch) (rest : List Patch) → keys_of (drop at list) ≡ labels_of (patch ∷ rest) → 1 ≤ patch.changes → at + patch.changes ≤ length list
ends_within list at patch rest labels some =
    let long = sym (length-map (drop at list) catch_key) ∙ ap length labels ∙ length-append (labels_from patch.name 1 patch.changes) (labels_of rest) in
    omega (arith, long, some, labels_count patch.name 1 patch.changes, length-drop at list)

abbrev name_at_front : List Key → List ℕ
name_at_front [] = []
name_at_front (key ∷ keys) = key.name

-- the first catch of a patch has its name
pub first_name : (list : List Catch) (n m : ℕ) (d : Catch) (name : List ℕ) (rest : List Key) → keys_of list ≡ labels_from name 1 n ++ rest → 1 ≤ n → 1 ≤ m → name_of (get_or (take m list) 0 d) ≡ name
first_name list zero m d name rest labels some more = absurd (omega (arith, some))
first_name list (suc n) zero d name rest labels some more = absurd (omega (arith, more))
first_name [] (suc n) (suc m) d name rest labels some more = absurd (omega (arith, ap length labels))
first_name (k ∷ list) (suc n) (suc m) d name rest labels some more = ap name_at_front labels

-- if there is a catch, there is a patch
pub some_patch : (list : List Catch) (at : ℕ) (rest : List Patch) → keys_of (drop at list) ≡ labels_of rest → at < length list → (patch : Patch) × (more : List Patch) × (rest ≡ patch ∷ more)
some_patch list at [] labels within =
    let none = sym (length-map (drop at list) catch_key) ∙ ap length labels in
    absurd (omega (arith, none, within, length-drop at list))
some_patch list at (patch ∷ more) labels within = (patch, more, refl)

-- and if there is none, there is no patch
pub no_patch : (list : List Catch) (at : ℕ) (rest : List Patch) → keys_of (drop at list) ≡ labels_of rest → AllByRecursion IsSized rest → length list ≤ at → rest ≡ []
no_patch list at [] labels sized end = refl
no_patch list at (patch ∷ more) labels sized end =
    absurd (omega (arith, ends_within list at patch more labels sized.0.0, sized.0.0, end))

pub drop_on : {X : Type 0} (at n : ℕ) (list : List X) → drop at list ≡ take n (drop at list) ++ drop (at + n) list
drop_on at n list =
    sym (take-append-drop n (drop at list)) ∙ ap (λ l. take n (drop at list) ++ l) (drop-drop n at list)
