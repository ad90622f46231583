-- What each accepted call does.
use Rattle.camp_repo.proofs.Words.{◌≡◌, ℕ, ◌+◌, AreDistinct, Branches, Call, all_append, false, not, List, [], ◌∷◌, ◌++◌, Option, None, Some, Ok, is_some, length, nat_le, bytes_eq, refl, sym, ap, ◌∙◌, subst, same_Some, Files, Primitive, Catch, LeadsTo, has_patch, is_among, names_of, recorded, AreLacked, ObliterateGives, PullGives, conflicts_are_determined, among_kept, outcomes_are_determined, BranchExists, NothingToDo, PatchExists, SameBranch, TooLarge, Next, IsLawfulState, IsLawfulBy, names_of_branches, obliterated, pulled, Contents, after, catches_of, stands, tree_of, with_catches, accepted, is_empty, is_full_with, is_too_large, listed, shown, step, wanted, obliterates_keep_lawful, pulls_keep_lawful, pulled_by, AcceptedCallsHaveEffect, ChangesOne, Copies, Effect, Has, Obliterates, OutcomesAreDefined, Pulls, Records, and_parts, not-true}
use Rattle.std.proofs.lemmas.List.{map-append}
use Rattle.camp_call.specs.declared.calls.Call.TheVariants as call
use Rattle.camp_repo.proofs.AcceptedSteps.{becomes_other, has_branch, has_tree, lacks_none, leads_on, next_is, passes}
use Rattle.camp_repo.proofs.BranchSteps.{OfEach, absent, distinct_grown, free_of_each, has_other, names_stay, of_each_with, of_one, others_stay}
use Rattle.camp_repo.proofs.LawfulBranches.{lawful_alone, left_lawful, pulled_lawful, recorded_lawful, still_lawful, with_number}
use Rattle.camp_repo.proofs.SizeSteps.{sized_of}
use Rattle.camp_repo.proofs.TreeSteps.{changes_apply, tree_found}

-- the effect of a pull that succeeds
pub pull_gives : (from to pulled_to : List Catch) (names : List (List ℕ)) → pulled from to names ≡ Ok pulled_to → PullGives from to names (Ok pulled_to)
pull_gives from to pulled_to names e = subst (PullGives from to names) e (outcomes_are_determined.pulls from to names).1

-- and of an obliteration
pub obliterate_gives : (branch left : List Catch) (names : List (List ℕ)) → obliterated branch names ≡ Ok left → ObliterateGives branch names (Ok left)
obliterate_gives branch left names e = subst (ObliterateGives branch names) e (outcomes_are_determined.obliterates branch names).1

-- each wanted name is lacked
pub wanted_is_lacked : (ours : List Catch) (names : List (List ℕ)) → AreLacked ours (wanted ours names)
wanted_is_lacked ours names name among =
    let both = and_parts (is_among names name) _ (sym (among_kept (λ n. not (has_patch ours n)) names name) ∙ among) in
    not-true (has_patch ours name) both.1

module _ (state next : Contents) (branch : List ℕ) (old new : List Catch) where
  -- one branch is given other catches
  pub changes_one : Has state branch old → accepted state (with_catches state.branches branch new) ≡ Next next → ChangesOne branch state next × Has next branch new
  changes_one was e =
      let same = next_is state next (with_catches state.branches branch new) e in (
        record {
          counted = ap (λ s. s.count) (sym same);
          limits = ap (λ s. s.limits) (sym same);
          names = ap (λ s. names_of_branches s.branches) (sym same) ∙ names_stay state.branches branch new;
          others = λ other differs. ap (λ s. catches_of s.branches other) (sym same) ∙ others_stay state.branches branch other new differs;
        },
        ap (λ s. catches_of s.branches branch) (sym same) ∙ has_other state.branches branch old new was,
      )

-- a lawful state has lawful branches
pub lawful_branch : (state : Contents) (lawful : IsLawfulState state) (branch : List ℕ) (catches : List Catch) → Has state branch catches → IsLawfulBy lawful.changes_of catches
lawful_branch state lawful branch catches has =
    of_one (IsLawfulBy lawful.changes_of) state.branches branch catches lawful.lawful has

-- lawful branches, after the catches of one were replaced, for these numbers of changes
with_lawful : (state next : Contents) (branch : List ℕ) (catches : List Catch) (changes_of : List ℕ → ℕ) → IsLawfulState state → OfEach (IsLawfulBy changes_of) state.branches → IsLawfulBy changes_of catches → accepted state (with_catches state.branches branch catches) ≡ Next next → IsLawfulState next
with_lawful state next branch catches changes_of lawful each new e = subst IsLawfulState (next_is state next (with_catches state.branches branch catches) e) (record {
  distinct = subst AreDistinct (sym (names_stay state.branches branch catches)) lawful.distinct;
  changes_of = changes_of;
  lawful = of_each_with (IsLawfulBy changes_of) state.branches branch catches each new;
})

-- a copy of a branch under a new name
pub copy_lawful : (state : Contents) (new from : List ℕ) (catches : List Catch) → IsLawfulState state → Has state from catches → catches_of state.branches new ≡ None → IsLawfulState (after state (state.branches ++ (new, catches) ∷ []))
copy_lawful state new from catches lawful has fresh = record {
  distinct =
      subst AreDistinct (sym (map-append (λ (branch : List ℕ × List Catch). branch.0) state.branches ((new, catches) ∷ [])))
      (distinct_grown (names_of_branches state.branches) new lawful.distinct (absent state.branches new fresh));
  changes_of = lawful.changes_of;
  lawful =
      all_append (λ branch. IsLawfulBy lawful.changes_of branch.1) state.branches ((new, catches) ∷ []) lawful.lawful
      (lawful_branch state lawful from catches has, tt);
}

each_still : (changes_of : List ℕ → ℕ) (name : List ℕ) (changes : ℕ) (branches : Branches) → OfEach (λ catches. has_patch catches name ≡ false) branches → OfEach (IsLawfulBy changes_of) branches → OfEach (IsLawfulBy (with_number changes_of name changes)) branches
each_still changes_of name changes [] free each = tt
each_still changes_of name changes (branch ∷ rest) free each = (
  still_lawful changes_of name changes branch.1 free.0 each.0,
  each_still changes_of name changes rest free.1 each.1,
)

is_none : {X : Type 0} (o : Option X) → is_some o ≡ false → o ≡ None
is_none None e = refl
is_none (Some x) e = cc

-- a call that is accepted has its effect, and leads to a lawful state
copies : (state next : Contents) (new from : List ℕ) → IsLawfulState state → step state (call.Branch new from) ≡ Next next → Copies new from state next × IsLawfulState next
copies state next new from lawful e =
    let there = has_branch state next from _ e in
    let fresh = passes state next (is_some (catches_of state.branches new)) (BranchExists new) _ there.2 in
    let few = passes state next (nat_le state.limits.branches (length state.branches)) TooLarge _ fresh.1 in
    let same = next_is state next (state.branches ++ (new, there.0) ∷ []) few.1 in (
      record {
        counted = ap (λ s. s.count) (sym same);
        limits = ap (λ s. s.limits) (sym same);
        catches = there.0;
        was = there.1;
        becomes = ap (λ s. s.branches) (sym same);
      },
      subst IsLawfulState same (copy_lawful state new from there.0 lawful there.1 (is_none _ fresh.0)),
    )

records : (state next : Contents) (branch name : List ℕ) (changes : List Primitive) → IsLawfulState state → step state (call.Record branch name changes) ≡ Next next → Records branch name changes state next × IsLawfulState next
records state next branch name changes lawful e =
    let there = has_branch state next branch _ e in
    let free = passes state next (stands state.branches name) (PatchExists name) _ there.2 in
    let small = passes state next (is_too_large state.limits.catches there.0 changes) TooLarge _ free.1 in
    let sized = sized_of state.limits.catches there.0 changes small.0 in
    let from = has_tree state next (tree_of there.0) _ _ small.1 in
    let on = leads_on state next branch (there.0 ++ recorded name 1 changes) _ from.2 in
    let change = changes_one state next branch there.0 (there.0 ++ recorded name 1 changes) there.1 on.2 in
    let own = lawful_branch state lawful branch there.0 there.1 in
    let same : own.tree ≡ from.0 = same_Some _ _ (sym (tree_found there.0 own.tree own.leads) ∙ from.1) in
    let leads = subst (LeadsTo there.0) same own.leads in
    let applies = changes_apply changes from.0 on.0 on.1 in
    let all_free = free_of_each state.branches name free.0 in
    let own_free = of_one (λ catches. has_patch catches name ≡ false) state.branches branch there.0 all_free there.1 in
    let new = recorded_lawful lawful.changes_of there.0 name changes from.0 on.0 own own_free sized.0 sized.1 leads applies in
    let each = each_still lawful.changes_of name (length changes) state.branches all_free lawful.lawful in (
      record {
        changes_one = change.0;
        catches = there.0;
        was = there.1;
        becomes = change.1;
        tree = from.0;
        next_tree = on.0;
        leads = leads;
        applies = applies;
      },
      with_lawful state next branch _ _ lawful each new on.2,
    )

pulls : (state next : Contents) (from to : List ℕ) (names : Option (List (List ℕ))) → IsLawfulState state → step state (call.Pull from to names) ≡ Next next → Pulls from to names state next × IsLawfulState next
pulls state next from to names lawful e =
    let theirs = has_branch state next from _ e in
    let ours = has_branch state next to _ theirs.2 in
    let names_wanted = wanted ours.0 (listed theirs.0 names) in
    let two = passes state next (bytes_eq from to) (SameBranch to) _ ours.2 in
    let all = lacks_none state next theirs.0 (listed theirs.0 names) _ two.1 in
    let some = passes state next (is_empty names_wanted) NothingToDo _ all in
    let few = passes state next (is_full_with state.limits.catches ours.0 theirs.0 names_wanted) TooLarge _ some.1 in
    let other = becomes_other state next to (pulled theirs.0 ours.0 names_wanted) few.1 in
    let gives = pull_gives theirs.0 ours.0 other.0 names_wanted other.1 in
    let parts = pulled_by theirs.0 ours.0 names_wanted other.0 gives in
    let change = changes_one state next to ours.0 other.0 ours.1 other.2 in
    let v = lawful_branch state lawful from theirs.0 theirs.1 in
    let w = lawful_branch state lawful to ours.0 ours.1 in
    let lacked = wanted_is_lacked ours.0 (listed theirs.0 names) in (
      record {
        changes_one = change.0;
        theirs = theirs.0;
        ours = ours.0;
        taken = parts.taken;
        from_has = theirs.1;
        to_has = ours.1;
        becomes = change.1 ∙ ap Some parts.becomes;
        named = ap names_of (sym parts.becomes) ∙ pulls_keep_lawful.names theirs.0 ours.0 other.0 names_wanted gives (lawful_alone lawful.changes_of theirs.0 v) (lawful_alone lawful.changes_of ours.0 w) lacked;
      },
      with_lawful state next to other.0 lawful.changes_of lawful lawful.lawful (pulled_lawful lawful.changes_of theirs.0 ours.0 other.0 names_wanted gives v w lacked) other.2,
    )

obliterates : (state next : Contents) (branch : List ℕ) (names : List (List ℕ)) → IsLawfulState state → step state (call.Obliterate branch names) ≡ Next next → Obliterates branch names state next × IsLawfulState next
obliterates state next branch names lawful e =
    let there = has_branch state next branch _ e in
    let all = lacks_none state next there.0 names _ there.2 in
    let some = passes state next (is_empty names) NothingToDo _ all in
    let other = becomes_other state next branch (obliterated there.0 names) some.1 in
    let gives = obliterate_gives there.0 other.0 names other.1 in
    let change = changes_one state next branch there.0 other.0 there.1 other.2 in
    let v = lawful_branch state lawful branch there.0 there.1 in (
      record {
        changes_one = change.0;
        catches = there.0;
        left = other.0;
        was = there.1;
        becomes = change.1;
        named = obliterates_keep_lawful.names there.0 other.0 names gives (lawful_alone lawful.changes_of there.0 v);
      },
      with_lawful state next branch other.0 lawful.changes_of lawful lawful.lawful (left_lawful lawful.changes_of there.0 other.0 names gives v) other.2,
    )

not_shown : (next : Contents) (o : Option Files) → shown o ≡ Next next → ⊥
not_shown next None e = cc
not_shown next (Some tree) e = cc

-- no question is accepted
pub called : (state : Contents) (call : Call) (next : Contents) → IsLawfulState state → step state call ≡ Next next → Effect call state next × IsLawfulState next
called state (call.Branch new from) next lawful e = copies state next new from lawful e
called state (call.Record branch name changes) next lawful e = records state next branch name changes lawful e
called state (call.Pull from to names) next lawful e = pulls state next from to names lawful e
called state (call.Obliterate branch names) next lawful e = obliterates state next branch names lawful e
called state (call.Tree branch) next lawful e = let there = has_branch state next branch _ e in absurd (not_shown next (tree_of there.0) there.2)
called state (call.Conflicts branch) next lawful e = let there = has_branch state next branch _ e in absurd (cc)
called state (call.Names branch) next lawful e = let there = has_branch state next branch _ e in absurd (cc)

pub accepted_calls : AcceptedCallsHaveEffect
accepted_calls state call next lawful e = (called state call next lawful e).0

-- the functions give exactly what the relations say
pub outcomes_defined : OutcomesAreDefined
outcomes_defined = record {
  pulls = λ from to wanted. (outcomes_are_determined.pulls from to wanted).1;
  obliterates = λ branch names. (outcomes_are_determined.obliterates branch names).1;
  conflicts = λ branch. (conflicts_are_determined branch).1;
}
