-- The versions that patches in unresolved conflicts would make of a file, one patch after the other.
use Rattle.camp_questions.proofs.Words.{flat_map, is_among, ◌≡◌, ◌<◌, ℕ, ◌+◌, true, false, cond, ◌||◌, List, [], ◌∷◌, ◌++◌, Option, None, Some, append_assoc, bytes_eq, get_or, length, refl, sym, ap, ◌∙◌, subst, take, take_more, Files, Lines, pointwise, ContextedPatches, AreVersions, MakesVersion, is_in_pair, with_made, Version, or_assoc}

with_made_first : (lines : Lines) (name : List ℕ) (made : Option Lines) (versions : List Version) → with_made lines name made versions ≡ with_made lines name made [] ++ versions
with_made_first lines name None versions = refl
with_made_first lines name (Some made) versions = elim (pointwise bytes_eq lines made) as (λ b. cond b versions (record { name = name; lines = made } ∷ versions) ≡ cond b [] (record { name = name; lines = made } ∷ []) ++ versions) [
  | true ↦ refl
  | false ↦ refl
]

-- one more patch would make a version, or none
pub one_more_version : (seen : ContextedPatches) (tree : Files) (path : List ℕ) (lines : Lines) (names : List (List ℕ)) (name : List ℕ) (made : Option Lines) (versions : List Version) → AreVersions seen tree path lines names versions → MakesVersion seen tree path name made
    → AreVersions seen tree path lines (names ++ name ∷ []) (versions ++ with_made lines name made [])
one_more_version seen tree path lines [] name made versions is makes =
    (made, [], makes, refl, ap (λ v. v ++ with_made lines name made []) is)
one_more_version seen tree path lines (other ∷ names) name made versions (first, others, makes_first, rest, is) makes =
    let more = with_made lines name made [] in (
      first,
      others ++ more,
      makes_first,
      one_more_version seen tree path lines names name made others rest makes,
      ap (λ v. v ++ more) (is ∙ with_made_first lines other first others) ∙ append_assoc (with_made lines other first []) others more ∙ sym (with_made_first lines other first (others ++ more)),
    )

-- the name at an index
pub next_version : (seen : ContextedPatches) (tree : Files) (path : List ℕ) (lines : Lines) (names : List (List ℕ)) (i : ℕ) (name d : List ℕ) (made : Option Lines) (versions next : List Version) → i < length names → name ≡ get_or names i d → AreVersions seen tree path lines (take i names) versions
    → MakesVersion seen tree path name made → next ≡ versions ++ with_made lines name made [] → AreVersions seen tree path lines (take (i + 1) names) next
next_version seen tree path lines names i name d made versions next within is are makes becomes =
    let more : take (i + 1) names ≡ take i names ++ name ∷ [] = take_more names i d within ∙ ap (λ n. take i names ++ n ∷ []) (sym is) in
    subst (λ v. AreVersions seen tree path lines (take (i + 1) names) v) (sym becomes) (subst (λ l. AreVersions seen tree path lines l (versions ++ with_made lines name made [])) (sym more) (one_more_version seen tree path lines (take i names) name made versions are makes))

-- the names of pairs are those that are in one of them
abbrev pub both_of : List ℕ × List ℕ → List (List ℕ)
both_of pair = pair.0 ∷ pair.1 ∷ []

pub are_in_pairs : (pairs : List (List ℕ × List ℕ)) (name : List ℕ) → is_among (flat_map both_of pairs) name ≡ is_in_pair pairs name
are_in_pairs [] name = refl
are_in_pairs (pair ∷ pairs) name =
    ap (λ b. bytes_eq name pair.0 || (bytes_eq name pair.1 || b)) (are_in_pairs pairs name) ∙ sym (or_assoc (bytes_eq name pair.0) (bytes_eq name pair.1) (is_in_pair pairs name))
