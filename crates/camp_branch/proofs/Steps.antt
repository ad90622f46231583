-- The steps of a pull, and of an obliteration, that went through.
use Rattle.camp_branch.proofs.Words.{◌≡◌, ℕ, List, ◌++◌, Ok, Err, refl, sym, subst, inl, inr, Arrange, Align, keys_of, MergeLists, Catch, PullsBeginWithOwn, ObliterateGives, other_names, Outcome, PullGives, common_names, Blocked}

-- a pull that succeeds
pub record Pulled (from to : List Catch) (wanted : List (List ℕ)) (pulled : List Catch) : Type 0 where
  pub from_common : List Catch
  pub behind : List Catch
  pub own_front : Arrange (common_names from to) from from_common behind
  pub chosen : List Catch
  pub left : List Catch
  pub choice : Arrange wanted behind chosen left
  pub to_common : List Catch
  pub others : List Catch
  pub their_front : Arrange (common_names from to) to to_common others
  pub same : Align (keys_of to_common) from_common to_common
  pub taken : List Catch
  pub beside : List Catch
  pub merge : MergeLists chosen others taken beside
  pub becomes : pulled ≡ to ++ taken

apart : {A : Type 0} (branch : List Catch) (blocked : Blocked) → Ok branch ≡ Err blocked → A
apart branch blocked e = cc

same_branch : (branch other : List Catch) (outcome : Outcome) → outcome ≡ Ok branch → outcome ≡ Ok other → branch ≡ other
same_branch branch other outcome e f = cc

pub pulled_by : (from to : List Catch) (wanted : List (List ℕ)) (pulled : List Catch) → PullGives from to wanted (Ok pulled) → Pulled from to wanted pulled
pulled_by from to wanted pulled (inr s) = apart pulled _ s.3
pulled_by from to wanted pulled (inl (_, _, _, inr s)) = apart pulled _ s.3
pulled_by from to wanted pulled (inl (_, _, _, inl (_, _, _, inr s))) = apart pulled _ s.3
pulled_by from to wanted pulled (inl (_, _, _, inl (_, _, _, inl (_, _, _, inr (inl s))))) = apart pulled _ s.2
pulled_by from to wanted pulled (inl (_, _, _, inl (_, _, _, inl (_, _, _, inr (inr s))))) = apart pulled _ s.4
pulled_by from to wanted pulled (inl (_, _, _, inl (_, _, _, inl (_, _, _, inl (_, inr s))))) = apart pulled _ s.3
pulled_by from to wanted pulled (inl (from_common, behind, own_front, inl (chosen, left, choice, inl (to_common, others, their_front, inl (same, inl (taken, beside, merge, is)))))) = record {
  from_common = from_common;
  behind = behind;
  own_front = own_front;
  chosen = chosen;
  left = left;
  choice = choice;
  to_common = to_common;
  others = others;
  their_front = their_front;
  same = same;
  taken = taken;
  beside = beside;
  merge = merge;
  becomes = same_branch pulled (to ++ taken) (Ok pulled) refl is;
}

-- the result of an obliteration that succeeds
pub left_by : (branch : List Catch) (names : List (List ℕ)) (left : List Catch) → ObliterateGives branch names (Ok left) → (gone : List Catch) × Arrange (other_names branch names) branch left gone
left_by branch names left gives = elim gives [
  | inl a ↦ (a.1, subst (λ l. Arrange (other_names branch names) branch l a.1) (sym (same_branch left a.0 (Ok left) refl a.3)) a.2)
  | inr s ↦ apart left _ s.3
]

-- a pull that succeeds gives the target branch followed by the pulled catches
pub pulls_begin_with_own : PullsBeginWithOwn
pulls_begin_with_own from to pulled wanted gives =
    let steps = pulled_by from to wanted pulled gives in
    (steps.taken, steps.becomes)
