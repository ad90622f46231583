-- The prefix of a branch that an obliteration leaves unchanged: only the catches after it are arranged.
use Rattle.camp_branch.proofs.Words.{◌≡◌, ◌+◌, ◌++◌, ◌&&◌, ℕ, suc, ap, arith, true, not, cond, Ok, Err, List, map, AllByRecursion, [], ◌∷◌, take, drop, refl, sym, ◌∙◌, subst, contains_key, keys, Key, Arrange, ArrangeIsBlocked, Catch, IsLawfulBranch, has_patch, is_among, name_of, front_before, front_of, DependsIn, ObliterateGives, Blocked, cond_both, take-append-drop}
use Rattle.camp_branch.proofs.BranchFields.{Names}
use Rattle.camp_branch.proofs.KeepLawful.{obliterates_keep_lawful}
use Rattle.camp_branch.proofs.Names.{each_named, is_among_is}
use Rattle.camp_branch.proofs.NameSets.{has_listed}
use Rattle.camp_branch.proofs.NamesKept.{left_has, obliterate_depends, obliterated}
use Rattle.camp_branch.proofs.AgreedFronts.{AllOf, arranged_front, sticks_front}

module _ (names : List (List ℕ)) where
  -- each catch of the front is of one of the patches
  front_all : (list : List Catch) → AllOf names (take (front_of names list) list)
  front_all [] = tt
  front_all (k ∷ list) =
      let n = front_of names list in
      let more : suc n ≡ 1 + n = omega arith in
      cond_both (is_among names (name_of k)) (1 + n) 0 (λ m. AllOf names (take m (k ∷ list))) (λ e. subst (λ m. AllOf names (take m (k ∷ list))) more ((is_among_is names (name_of k)).1 e, front_all list)) (λ e. tt)

  -- the prefix is arranged as it is
  pub arranged_behind : (list first rest : List Catch) → Arrange names (drop (front_of names list) list) first rest → Arrange names list (take (front_of names list) list ++ first) rest
  arranged_behind list first rest w =
      let n = front_of names list in
      subst (λ l. Arrange names l (take n list ++ first) rest) (take-append-drop n list) (arranged_front names (take n list) (drop n list) first rest (front_all list) w)

  -- what is blocked after the prefix is blocked in the whole
  pub sticks_behind : (list : List Catch) (patch on : Key) → ArrangeIsBlocked names (drop (front_of names list) list) patch on → ArrangeIsBlocked names list patch on
  sticks_behind list patch on w =
      let n = front_of names list in
      subst (λ l. ArrangeIsBlocked names l patch on) (take-append-drop n list) (sticks_front names (take n list) (drop n list) patch on (front_all list) w)

-- each patch of a branch stays or goes, so the prefix ends before the first catch of a patch that goes
module _ (own : List Catch) (gone : List (List ℕ)) (staying : Names) (stays : (n : List ℕ) → contains_key staying n ≡ (has_patch own n && not (is_among gone n))) where
  stays_or_goes : (k : Catch) → has_patch own (name_of k) ≡ true → not (is_among gone (name_of k)) ≡ is_among (keys staying) (name_of k)
  stays_or_goes k has = sym (sym (has_listed staying (name_of k)) ∙ stays (name_of k) ∙ ap (λ b. b && not (is_among gone (name_of k))) has)

  front_in : (list : List Catch) → AllByRecursion (λ k. has_patch own (name_of k) ≡ true) list → front_before gone list ≡ front_of (keys staying) list
  front_in [] all = refl
  front_in (k ∷ list) all = λ i. cond (stays_or_goes k all.0 i) (1 + front_in list all.1 i) 0

  pub front_is_before : front_before gone own ≡ front_of (keys staying) own
  front_is_before = front_in own (each_named name_of (λ k. has_patch own (name_of k) ≡ true) own (λ k has. (is_among_is (map name_of own) (name_of k)).0 has))

-- the catches after a prefix that stays, and the names that stay
pub record StaysInFront (own : List Catch) (gone : List (List ℕ)) (staying : Names) (start : ℕ) (behind : List Catch) : Type 0 where
  pub stays : (n : List ℕ) → contains_key staying n ≡ (has_patch own n && not (is_among gone n))
  pub at : start ≡ front_of (keys staying) own
  pub is : behind ≡ drop start own

-- an obliteration depends only on the catches after the prefix
module _ (own : List Catch) (gone : List (List ℕ)) (staying : Names) (start : ℕ) (behind : List Catch) (front : StaysInFront own gone staying start behind) where
  pub front_stays : (first rest : List Catch) → Arrange (keys staying) behind first rest → ObliterateGives own gone (Ok (take start own ++ first))
  front_stays first rest w =
      let here = subst (λ n. Arrange (keys staying) (drop n own) first rest) front.at (subst (λ l. Arrange (keys staying) l first rest) front.is w) in
      subst (λ n. ObliterateGives own gone (Ok (take n own ++ first))) (sym front.at) (obliterated own gone staying front.stays own (take (front_of (keys staying) own) own ++ first) rest refl (arranged_behind (keys staying) own first rest here))

  pub front_depends : (blocked : Blocked) → DependsIn (keys staying) behind blocked → ObliterateGives own gone (Err blocked)
  front_depends blocked w =
      let here = subst (λ n. ArrangeIsBlocked (keys staying) (drop n own) w.0 w.1) front.at (subst (λ l. ArrangeIsBlocked (keys staying) l w.0 w.1) front.is w.2) in
      obliterate_depends own gone staying front.stays own blocked refl (w.0, w.1, sticks_behind (keys staying) own w.0 w.1 here, w.3)

  -- the remaining catches are lawful, and have the names that stay
  pub front_lawful : (first rest : List Catch) → Arrange (keys staying) behind first rest → IsLawfulBranch own → IsLawfulBranch (take start own ++ first)
  front_lawful first rest w lawful =
      obliterates_keep_lawful.lawful own (take start own ++ first) gone (front_stays first rest w) lawful

  pub front_named : (first rest : List Catch) → Arrange (keys staying) behind first rest → IsLawfulBranch own → (n : List ℕ) → contains_key staying n ≡ has_patch (take start own ++ first) n
  front_named first rest w lawful n =
      front.stays n ∙ sym (left_has own (take start own ++ first) gone lawful (front_stays first rest w) n)
