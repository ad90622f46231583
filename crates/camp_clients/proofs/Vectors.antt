-- Lemmas on vectors of vectors as lists of lists.
use Rattle.camp_clients.proofs.Words.{◌≡◌, ℕ, ◌+◌, ◌<◌, List, [], ◌∷◌, ◌++◌, length, take, get_or, sym, ◌∙◌, ap, Vec, vec_items, lists_of, section_of}
use Rattle.std.proofs.lemmas.List.{take_more, map_push, get_or-map, length-map}

module _ {X Z : Type 0} where
  -- the section of a seat is what its vector has
  pub section_at : (vectors : List (Vec X Z)) (i : ℕ) (v : Vec X Z) → i < length vectors → v ≡ get_or vectors i v → section_of (lists_of vectors) i ≡ v.items
  section_at vectors i v below at = get_or-map vec_items vectors i v [] below ∙ ap vec_items (sym at)

  pub length-lists_of : (vectors : List (Vec X Z)) → length (lists_of vectors) ≡ length vectors
  length-lists_of vectors = length-map vectors vec_items

  pub lists_more : (vectors : List (Vec X Z)) (i : ℕ) (v : Vec X Z) → i < length vectors → v ≡ get_or vectors i v
      → lists_of (take (i + 1) vectors) ≡ lists_of (take i vectors) ++ v.items ∷ []
  lists_more vectors i v below at = ap lists_of (take_more vectors i v below ∙ ap (λ x. take i vectors ++ x ∷ []) (sym at)) ∙ map_push vec_items (take i vectors) v
