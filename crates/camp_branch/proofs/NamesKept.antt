-- The sets of names that a pull or an obliteration works with, and the names of its result.
use Rattle.camp_branch.proofs.Words.{◌≡◌, ℕ, not, ◌&&◌, List, map, Ok, Err, refl, sym, ap, ◌∙◌, subst, inl, inr, ◌↔◌, Contains, contains_key, keys, Arrange, Catch, arrange_by_members, names_decide, IsLawfulBranch, has_patch, is_among, name_of, names_of, DependsIn, ObliterateGives, other_names, common_names, Blocked}
use Rattle.camp_branch.proofs.BranchFields.{Names}
use Rattle.camp_branch.proofs.KeepLawful.{obliterates_keep_lawful}
use Rattle.camp_branch.proofs.Names.{is_among_is}
pub use Rattle.camp_branch.proofs.Names.{among_kept, among_once}

pub among_others : (branch : List Catch) (gone : List (List ℕ)) (n : List ℕ) → is_among (other_names branch gone) n ≡ (has_patch branch n && not (is_among gone n))
among_others branch gone n =
    among_kept (λ name. not (is_among gone name)) (names_of branch) n ∙ ap (λ t. t && not (is_among gone n)) (among_once (map name_of branch) n)

pub among_common : (from to : List Catch) (n : List ℕ) → is_among (common_names from to) n ≡ (has_patch from n && has_patch to n)
among_common from to n =
    among_kept (has_patch to) (names_of from) n ∙ ap (λ t. t && has_patch to n) (among_once (map name_of from) n)

-- a set and a list have the same names
pub same_members : (set : Names) (names : List (List ℕ)) → ((n : List ℕ) → contains_key set n ≡ is_among names n) → (n : List ℕ) → Contains (keys set) n ↔ Contains names n
same_members set names same n =
    (λ c. (is_among_is names n).1 (sym (same n) ∙ (names_decide set n).1 c), λ c. (names_decide set n).0 (same n ∙ (is_among_is names n).0 c))

-- after an obliteration the branch has the names that stay
pub left_has : (branch left : List Catch) (gone : List (List ℕ)) → IsLawfulBranch branch → ObliterateGives branch gone (Ok left) → (n : List ℕ) → has_patch left n ≡ (has_patch branch n && not (is_among gone n))
left_has branch left gone lawful gives n =
    sym (among_once (map name_of left) n) ∙ ap (λ names. is_among names n) (obliterates_keep_lawful.names branch left gone gives lawful) ∙ among_others branch gone n

-- which names stay, by the index of a branch
pub stays_by : (index staying : Names) (branch own : List Catch) (gone : List (List ℕ)) → ((n : List ℕ) → contains_key index n ≡ has_patch branch n) → branch ≡ own → ((n : List ℕ) → contains_key staying n ≡ (contains_key index n && not (is_among gone n))) → (n : List ℕ) → contains_key staying n ≡ (has_patch own n && not (is_among gone n))
stays_by index staying branch own gone named is stays n =
    stays n ∙ ap (λ b. b && not (is_among gone n)) (named n ∙ ap (λ l. has_patch l n) is)

module _ (branch : List Catch) (gone : List (List ℕ)) (staying : Names) (stays : (n : List ℕ) → contains_key staying n ≡ (has_patch branch n && not (is_among gone n))) where
  same_others : (n : List ℕ) → Contains (keys staying) n ↔ Contains (other_names branch gone) n
  same_others = same_members staying (other_names branch gone) (λ n. stays n ∙ sym (among_others branch gone n))

  pub obliterated : (list left rest : List Catch) → list ≡ branch → Arrange (keys staying) list left rest → ObliterateGives branch gone (Ok left)
  obliterated list left rest is w =
      inl (left, rest, arrange_by_members.arranged (keys staying) (other_names branch gone) same_others branch left rest (subst (λ l. Arrange (keys staying) l left rest) is w), refl)

  pub obliterate_depends : (list : List Catch) (blocked : Blocked) → list ≡ branch → DependsIn (keys staying) list blocked → ObliterateGives branch gone (Err blocked)
  obliterate_depends list blocked is v =
      let w = subst (λ l. DependsIn (keys staying) l blocked) is v in
      inr (w.0, w.1, arrange_by_members.sticks (keys staying) (other_names branch gone) same_others branch w.0 w.1 w.2, ap Err w.3)
