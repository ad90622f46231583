-- The patches of a list of catches, found one after the other.
use Rattle.camp_questions.proofs.Words.{IsLawfulBranch, ◌≡◌, ◌<◌, ◌≤◌, ℕ, zero, suc, ◌+◌, ◌-◌, ◌==◌, cond, List, [], ◌∷◌, ◌++◌, length, take, drop, get_or, append-nil, refl, sym, ap, ◌∙◌, subst, arith, AllByRecursion, append_assoc, drop-drop, drop_all, drop_more, length-append, length-drop, map-append, take_at, drop_at, Key, Catch, all_append, name_of, AreDistinct, HasPatches, Patch, labels_from, labels_of, patch_names, take_all, ne_eqb, names_of_patches, IsSized, names_of, catch_key, keys_of, AreOfPatch, ArePatchesOf, catches_in_order, names_in_order, until_next, PatchCatches, take-add, length-map, labels_count}
use Rattle.camp_questions.proofs.PatchFronts.{of_one_patch, parts_by_labels, same_head}
use Rattle.camp_questions.proofs.PatchesBack.{catches-append}

-- the catches of a patch after its first one, and the first of the next patch
until_next_at : (list : List Catch) (name : List ℕ) (place changes : ℕ) (patches : List Patch) → 2 ≤ place → AllByRecursion IsSized patches → keys_of list ≡ labels_from name place changes ++ labels_of patches → until_next list ≡ changes
until_next_at [] name place zero patches later sized e = refl
until_next_at [] name place (suc changes) patches later sized e = cc
until_next_at (k ∷ list) name place zero [] later sized e = cc
until_next_at (k ∷ list) name place zero (p ∷ patches) later sized e = first p.changes refl
  where
    first : (n : ℕ) → p.changes ≡ n → until_next (k ∷ list) ≡ zero
    first zero f = let some = sized.0.0 in absurd (omega (arith, some, f))
    first (suc n) f =
        let starts : catch_key k ∷ keys_of list ≡ labels_from p.name 1 (suc n) ++ labels_of patches = e ∙ ap (λ c. labels_from p.name 1 c ++ labels_of patches) f in
        ap (λ (key : Key). cond (key.place == 1) zero (suc (until_next list))) (same_head starts).0
until_next_at (k ∷ list) name place (suc changes) patches later sized e =
    let same = same_head e in
    ap (λ (key : Key). cond (key.place == 1) zero (suc (until_next list))) same.0 ∙ not_first place later ∙ ap suc (until_next_at list name (place + 1) changes patches (omega (arith, later)) sized same.1)
  where
    not_first : (n : ℕ) → 2 ≤ n → cond (n == 1) zero (suc (until_next list)) ≡ suc (until_next list)
    not_first zero le = absurd (omega (arith, le))
    not_first (suc zero) le = absurd (omega (arith, le))
    not_first (suc (suc n)) le =
        ap (λ b. cond b zero (suc (until_next list))) (ne_eqb (suc (suc n)) 1 (λ e. absurd (omega (e, arith))))

-- the patches found so far, and those still to be found
pub record AreFound (list : List Catch) (start : ℕ) (found : List PatchCatches) : Type 0 where
  pub left : List Patch
  pub sized : AllByRecursion IsSized left
  pub labels : keys_of (drop start list) ≡ labels_of left
  pub within : start ≤ length list
  pub catches : catches_in_order found ≡ take start list
  pub own : AllByRecursion (λ (patch : PatchCatches). AreOfPatch patch.name patch.catches.items) found
  pub distinct : AreDistinct (names_in_order found ++ patch_names left)
  pub named : names_in_order found ++ patch_names left ≡ names_of list

pub none_found : (list : List Catch) (patches : List Patch) → HasPatches list patches → AreFound list 0 []
none_found list patches has = record {
  left = patches;
  sized = has.sized;
  labels = has.labels;
  within = omega arith;
  catches = refl;
  own = tt;
  distinct = has.distinct;
  named = sym (names_of_patches list patches has);
}

-- the catches of a lawful branch are those of patches
pub patches_there : (branch list : List Catch) → list ≡ branch → IsLawfulBranch branch → (patches : List Patch) × HasPatches list patches
patches_there branch list is lawful = (lawful.patches, subst (λ l. HasPatches l lawful.patches) (sym is) lawful.has)

-- one more patch is found
pub one_found : (list : List Catch) (start end : ℕ) (found : List PatchCatches) (b : PatchCatches) (k d : Catch) → start < length list → end ≡ start + 1 + until_next (drop (start + 1) list) → k ≡ get_or list start d → b.name ≡ name_of k → b.catches.items ≡ take (end - start) (drop start list) → AreFound list start found → AreFound list end (found ++ b ∷ []) × (start < end)
one_found list start end found b k d within ends is called catches so_far =
    at so_far.left so_far.sized so_far.labels so_far.distinct so_far.named
  where
    behind : drop start list ≡ k ∷ drop (start + 1) list
    behind = drop_more list start d within ∙ ap (λ x. x ∷ drop (start + 1) list) (sym is)

    at : (left : List Patch) → AllByRecursion IsSized left → keys_of (drop start list) ≡ labels_of left → AreDistinct (names_in_order found ++ patch_names left) → names_in_order found ++ patch_names left ≡ names_of list → AreFound list end (found ++ b ∷ []) × (start < end)
    at [] sized labels distinct own_names =
        let some : catch_key k ∷ keys_of (drop (start + 1) list) ≡ [] = sym (ap keys_of behind) ∙ labels in cc
    at (p ∷ patches) sized labels distinct own_names = with_changes p.changes refl
      where
        with_changes : (n : ℕ) → p.changes ≡ n → AreFound list end (found ++ b ∷ []) × (start < end)
        with_changes zero f = let some = sized.0.0 in absurd (omega (arith, some, f))
        with_changes (suc n) f =
            let keys : keys_of (drop start list) ≡ labels_from p.name 1 (suc n) ++ labels_of patches = labels ∙ ap (λ c. labels_from p.name 1 c ++ labels_of patches) f in
            let starts : catch_key k ∷ keys_of (drop (start + 1) list) ≡ labels_from p.name 1 (suc n) ++ labels_of patches = sym (ap keys_of behind) ∙ keys in
            let same = same_head starts in
            let count : until_next (drop (start + 1) list) ≡ n = until_next_at (drop (start + 1) list) p.name 2 n patches (omega arith) sized.1 same.1 in
            let whole : end ≡ start + suc n = omega (arith, ends, count) in
            let parts = parts_by_labels (drop start list) (labels_from p.name 1 (suc n)) (labels_of patches) keys in
            let long : length parts.first ≡ suc n = sym (length-map parts.first catch_key) ∙ ap length parts.first_keys ∙ labels_count p.name 1 (suc n) in
            let gone : end - start ≡ suc n = omega (arith, whole) in
            let came : take (suc n) (drop start list) ≡ parts.first = ap (take (suc n)) parts.is ∙ take_at parts.first parts.rest (suc n) long in
            let group : b.catches.items ≡ parts.first = catches ∙ ap (λ m. take m (drop start list)) gone ∙ came in
            let named : b.name ≡ p.name = called ∙ ap (λ (key : Key). key.name) same.0 in
            let joined : take end list ≡ take start list ++ parts.first = ap (λ m. take m list) whole ∙ take-add start (suc n) list ∙ ap (λ l. take start list ++ l) came in
            let rest : drop end list ≡ parts.rest = ap (λ m. drop m list) whole ∙ sym (drop-drop (suc n) start list) ∙ ap (drop (suc n)) parts.is ∙ drop_at parts.first parts.rest (suc n) long in
            let fits : length (drop start list) ≡ length parts.first + length parts.rest = ap length parts.is ∙ length-append parts.first parts.rest in
            let all_long = length-drop start list in
            let moved : names_in_order (found ++ b ∷ []) ++ patch_names patches ≡ names_in_order found ++ p.name ∷ patch_names patches = ap (λ l. l ++ patch_names patches) (map-append (λ (patch : PatchCatches). patch.name) found (b ∷ []) ∙ (λ i. names_in_order found ++ named i ∷ [])) ∙ append_assoc (names_in_order found) (p.name ∷ []) (patch_names patches) in (
              record {
                left = patches;
                sized = sized.1;
                labels = ap keys_of rest ∙ parts.rest_keys;
                within = omega (arith, whole, fits, long, so_far.within, all_long);
                catches = catches-append found b ∙ (λ i. so_far.catches i ++ group i) ∙ sym joined;
                own = all_append (λ (patch : PatchCatches). AreOfPatch patch.name patch.catches.items) found (b ∷ []) so_far.own (subst (λ l. AreOfPatch b.name l) (sym group) (subst (λ m. AreOfPatch m parts.first) (sym named) (of_one_patch parts.first p.name 1 (suc n) parts.first_keys)), tt);
                distinct = subst AreDistinct (sym moved) distinct;
                named = moved ∙ own_names;
              },
              (omega (arith, whole)),
            )

-- all are found
pub all_found : (list : List Catch) (start : ℕ) (found : List PatchCatches) → length list ≤ start → AreFound list start found → ArePatchesOf list found
all_found list start found past so_far = at so_far.left so_far.sized so_far.labels so_far.distinct so_far.named
  where
    at : (left : List Patch) → AllByRecursion IsSized left → keys_of (drop start list) ≡ labels_of left → AreDistinct (names_in_order found ++ patch_names left) → names_in_order found ++ patch_names left ≡ names_of list → ArePatchesOf list found
    at [] sized labels distinct own_names = record {
      are = record { own = so_far.own; distinct = subst AreDistinct (append-nil (names_in_order found)) distinct };
      catches = so_far.catches ∙ take_all start list past;
      names = sym (append-nil (names_in_order found)) ∙ own_names;
    }
    at (p ∷ patches) sized labels distinct own_names = with_changes p.changes refl
      where
        with_changes : (n : ℕ) → p.changes ≡ n → ArePatchesOf list found
        with_changes zero f = let some = sized.0.0 in absurd (omega (arith, some, f))
        with_changes (suc n) f =
            let none : [] ≡ labels_from p.name 1 (suc n) ++ labels_of patches = sym (ap keys_of (drop_all start list past)) ∙ labels ∙ ap (λ c. labels_from p.name 1 c ++ labels_of patches) f in cc
