-- Branches by name, and other catches in one of them.
use Rattle.camp_repo.proofs.Words.{◌≡◌, ◌≢◌, ◌||◌, ℕ, false, cond, List, [], ◌∷◌, ◌++◌, None, Some, bytes_eq, refl, sym, ap, ◌∙◌, subst, cond_both, false_from_ne_true, none-some, same_Some, AllByRecursion, Catch, AreDistinct, has_patch, is_among, names_of_branches, Branches, catches_of, stands, with_catches, distinct_append, or_parts, same_name}
use Rattle.camp_branch.proofs.BranchLabels.{none_else}

-- the names of the branches stay
pub names_stay : (branches : Branches) (name : List ℕ) (catches : List Catch) → names_of_branches (with_catches branches name catches) ≡ names_of_branches branches
names_stay [] name catches = refl
names_stay (branch ∷ rest) name catches =
    cond_both (bytes_eq name branch.0) ((branch.0, catches) ∷ rest) (branch ∷ with_catches rest name catches) (λ bs. names_of_branches bs ≡ branch.0 ∷ names_of_branches rest) (λ e. refl) (λ e. ap (λ t. branch.0 ∷ t) (names_stay rest name catches))

-- the branch has the other catches
pub has_other : (branches : Branches) (name : List ℕ) (old catches : List Catch) → catches_of branches name ≡ Some old → catches_of (with_catches branches name catches) name ≡ Some catches
has_other [] name old catches was = absurd (none-some old was)
has_other (branch ∷ rest) name old catches was =
    cond_both (bytes_eq name branch.0) ((branch.0, catches) ∷ rest) (branch ∷ with_catches rest name catches) (λ bs. catches_of bs name ≡ Some catches)
    (λ e. ap (λ b. cond b (Some catches) (catches_of rest name)) e)
    (λ e. ap (λ b. cond b (Some branch.1) (catches_of (with_catches rest name catches) name)) e ∙ has_other rest name old catches (sym (ap (λ b. cond b (Some branch.1) (catches_of rest name)) e) ∙ was))

-- the other branches stay
pub others_stay : (branches : Branches) (name other : List ℕ) (catches : List Catch) → other ≢ name → catches_of (with_catches branches name catches) other ≡ catches_of branches other
others_stay [] name other catches differs = refl
others_stay (branch ∷ rest) name other catches differs =
    cond_both (bytes_eq name branch.0) ((branch.0, catches) ∷ rest) (branch ∷ with_catches rest name catches) (λ bs. catches_of bs other ≡ cond (bytes_eq other branch.0) (Some branch.1) (catches_of rest other))
    (λ e.
    let not_here = false_from_ne_true (bytes_eq other branch.0) (λ here. differs (same_name other branch.0 here ∙ sym (same_name name branch.0 e))) in
    ap (λ b. cond b (Some catches) (catches_of rest other)) not_here ∙ sym (ap (λ b. cond b (Some branch.1) (catches_of rest other)) not_here))
    (λ e. ap (cond (bytes_eq other branch.0) (Some branch.1)) (others_stay rest name other catches differs))

module _ (P : List Catch → Type 0) where
  -- a fact about all branches
  abbrev pub OfEach : Branches → Type 0
  OfEach branches = AllByRecursion (λ branch. P branch.1) branches

  -- it holds of all if it holds of the other catches
  pub of_each_with : (branches : Branches) (name : List ℕ) (catches : List Catch) → OfEach branches → P catches → OfEach (with_catches branches name catches)
  of_each_with [] name catches all new = all
  of_each_with (branch ∷ rest) name catches all new =
      cond_both (bytes_eq name branch.0) ((branch.0, catches) ∷ rest) (branch ∷ with_catches rest name catches) OfEach (λ e. (new, all.1)) (λ e. (all.0, of_each_with rest name catches all.1 new))

  -- it holds of the branch of a name
  pub of_one : (branches : Branches) (name : List ℕ) (catches : List Catch) → OfEach branches → catches_of branches name ≡ Some catches → P catches
  of_one [] name catches all is = absurd (none-some catches is)
  of_one (branch ∷ rest) name catches all is =
      cond_both (bytes_eq name branch.0) (Some branch.1) (catches_of rest name) (λ o. o ≡ Some catches → P catches) (λ e at. subst P (same_Some _ _ at) all.0) (λ e at. of_one rest name catches all.1 at) is

-- no branch of a name that has no catches
pub absent : (branches : Branches) (name : List ℕ) → catches_of branches name ≡ None → is_among (names_of_branches branches) name ≡ false
absent [] name is = refl
absent (branch ∷ rest) name is =
    cond_both (bytes_eq name branch.0) (Some branch.1) (catches_of rest name) (λ o. o ≡ None → (bytes_eq name branch.0 || is_among (names_of_branches rest) name) ≡ false) (λ e at. absurd (none-some branch.1 (sym at))) (λ e at. ap (λ b. b || is_among (names_of_branches rest) name) e ∙ absent rest name at) is

-- names stay distinct where a new one comes last
pub distinct_grown : (names : List (List ℕ)) (name : List ℕ) → AreDistinct names → is_among names name ≡ false → AreDistinct (names ++ name ∷ [])
distinct_grown names name distinct e = distinct_append names (name ∷ []) distinct (refl, tt) (none_else name names e)

-- a name that no branch has is not that of a patch of any
pub free_of_each : (branches : Branches) (name : List ℕ) → stands branches name ≡ false → OfEach (λ catches. has_patch catches name ≡ false) branches
free_of_each [] name e = tt
free_of_each (branch ∷ rest) name e =
    let parts = or_parts (has_patch branch.1 name) (stands rest name) e in
    (parts.0, free_of_each rest name parts.1)
