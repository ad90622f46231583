-- Facts about lists and sets of one element.
use Rattle.camp_catch.proofs.Words.{List, [], ap, arith, cond, is_some, length, refl, slice_index_or, ◌∙◌, ◌∷◌, ◌≡◌, empty, get-empty, insert, key_cmp, Named, ContextedPatch, ContextedPatches, context_key, only, with_member}

-- the empty set with a member added
pub first_member : (none : ContextedPatches) (x : ContextedPatch) → none ≡ empty → with_member none x ≡ only x
first_member none x is =
    ap (λ s. with_member s x) is ∙ ap (λ o. cond (is_some o) empty (insert empty (context_key x) x)) (get-empty key_cmp (context_key x))

-- a list of one is determined by its element
pub is_alone : (s : List Named) (d : Named) → length s ≡ 1 → s ≡ slice_index_or s 0 d ∷ []
is_alone [] d long = absurd (omega arith)
is_alone (p ∷ []) d long = refl
is_alone (p ∷ q ∷ s) d long = absurd (omega arith)
