-- The branch that an accepted call writes to.
use Rattle.camp_questions.proofs.OpenChanges.{changes_once, listed_there}
use Rattle.camp_questions.proofs.Words.{◌≡◌, ℕ, cond, List, [], ◌∷◌, ◌++◌, Option, None, Some, bytes_eq, refl, sym, ap, ◌∙◌, subst, same_Some, Files, Catch, LeadsTo, AreConflicts, name_itself, step, accepted_calls, Branches, Contents, catches_of, conflicts_shown, tree_shown, Next, Answer, Effect, Has, cond_both, none-some, Decision, ForeseenHappens}
use Rattle.camp_call.specs.declared.calls.Call.{Call}
use Rattle.camp_call.specs.declared.calls.Call.TheVariants as call
use Rattle.camp_call.specs.declared.replies.Reply.TheVariants as reply
use Rattle.camp_questions.specs.Foresight.{ForeseesOf, ForeseesAcceptance, OpensAndResolves, IsBranchState, branch_written}
use Rattle.camp_questions.specs.declared.foresight.BranchState.{BranchState}
use Rattle.camp_questions.specs.Inside.Foresight.{LedTo}
use Rattle.camp_repo.specs.Objects.{replies_to, reply_of, state_after_decision}
use Rattle.camp_questions.specs.declared.foresight.Foreseen.{Foreseen}

-- there are some catches
abbrev AreThere : Option (List Catch) → Type 0
AreThere o = (catches : List Catch) × (o ≡ Some catches)

-- the branch that is created last exists
last_there : (branches : Branches) (name : List ℕ) (catches : List Catch) → AreThere (catches_of (branches ++ (name, catches) ∷ []) name)
last_there [] name catches = (catches, ap (λ b. cond b (Some catches) None) (name_itself name))
last_there (branch ∷ branches) name catches =
    cond_both (bytes_eq name branch.0) (Some branch.1) (catches_of (branches ++ (name, catches) ∷ []) name) AreThere (λ e. (branch.1, refl)) (λ e. last_there branches name catches)

-- the branch of this name is written to, and exists
abbrev Writes : Call → Contents → Type 0
Writes call next = (name : List ℕ) × (branch_written call ≡ Some name) × AreThere (catches_of next.branches name)

written_by : (call : Call) (old next : Contents) → Effect call old next → Writes call next
written_by (call.Branch new from) old next effect =
    let there = last_there old.branches new effect.catches in
    (new, refl, (there.0, ap (λ branches. catches_of branches new) effect.becomes ∙ there.1))
written_by (call.Record branch name changes) old next effect = (branch, refl, (_, effect.becomes))
written_by (call.Pull from to names) old next effect = (to, refl, (_, effect.becomes))
written_by (call.Obliterate branch names) old next effect = (branch, refl, (effect.left, effect.becomes))
written_by other old next effect = absurd effect

writes : (call : Call) (state next : Contents) → LedTo call state next → Writes call next
writes call state next led = written_by call state next (accepted_calls state call next led.lawful led.leads)

not_none : {name other : List ℕ} (next : Contents) → other ≡ name → AreThere (catches_of next.branches other) → ¬ (catches_of next.branches name ≡ None)
not_none next same there none = some_is_none (sym there.1 ∙ ap (catches_of next.branches) same ∙ none)
  where
    some_is_none : {catches : List Catch} → Some catches ≡ None → ⊥
    some_is_none e = cc

-- the branch that it writes to exists
pub is_there : (call : Call) (state next : Contents) (name : List ℕ) → LedTo call state next → branch_written call ≡ Some name → ¬ (catches_of next.branches name ≡ None)
is_there call state next name led written =
    let to = writes call state next led in
    not_none next (same_Some _ _ (sym to.1 ∙ written)) to.2

-- its state is the one with which questions for it are answered
pub stands_so : (next : Contents) (name : List ℕ) (catches : List Catch) (tree copy : Files) (pairs told opened resolved : List (List ℕ × List ℕ)) → Has next name catches → LeadsTo catches tree → copy ≡ tree → AreConflicts catches pairs → told ≡ pairs → IsBranchState next (record { branch = name; tree = copy; conflicts = told; opened = opened; resolved = resolved })
stands_so next name catches tree copy pairs told opened resolved has leads same are is = record {
  tree = sym (tree_shown next name catches tree copy has leads same);
  conflicts = sym (ap (λ l. Answer (reply.Conflicts l)) is ∙ conflicts_shown next name catches pairs has are);
}

-- an accepted call is foreseen
pub accepted_so : (call : Call) (state next : Contents) (standing : BranchState) (count : ℕ) → count ≡ next.count → branch_written call ≡ Some standing.branch → IsBranchState next standing → OpensAndResolves state next standing.branch standing.opened standing.resolved → ForeseesAcceptance call state next (record { reply = reply.Done count; changed = Some standing })
accepted_so call state next standing count counted written stands changes =
    record { told = ap reply.Done counted; standing = standing; changed = refl; written = written; stands = stands; changes = changes }

-- ---- the foreseen result of a call is its result

-- the two questions for a branch, one after the other
then_told : (next : Contents) (standing : BranchState) → IsBranchState next standing → replies_to next (call.Tree standing.branch ∷ call.Conflicts standing.branch ∷ []) ≡ reply.Tree standing.tree ∷ reply.Conflicts standing.conflicts ∷ []
then_told next standing stands =
    let second = ap (λ d. step (state_after_decision next d) (call.Conflicts standing.branch)) stands.tree ∙ stands.conflicts in
    λ i. reply_of (stands.tree i) ∷ reply_of (second i) ∷ []

-- the same for a decision
record ComesSo (state : Contents) (decision : Decision) (seen : Foreseen) : Type 0 where
  replied : reply_of decision ≡ seen.reply
  stays : seen.changed ≡ None → state_after_decision state decision ≡ state
  changed : (standing : BranchState) → seen.changed ≡ Some standing → reply_of decision ∷ replies_to (state_after_decision state decision) (call.Tree standing.branch ∷ call.Conflicts standing.branch ∷ []) ≡ seen.reply ∷ reply.Tree standing.tree ∷ reply.Conflicts standing.conflicts ∷ []
  unresolved : (standing : BranchState) → seen.changed ≡ Some standing → OpensAndResolves state (state_after_decision state decision) standing.branch standing.opened standing.resolved

comes_so : (state : Contents) (asked : Call) (decision : Decision) (seen : Foreseen) → ForeseesOf state asked decision seen → ComesSo state decision seen
comes_so state asked (Next next) seen w = record {
  replied = sym w.told;
  stays = λ none. absurd (none-some w.standing (sym none ∙ w.changed));
  changed = λ standing is.
      let told = then_told next standing (subst (IsBranchState next) (same_Some _ _ (sym w.changed ∙ is)) w.stands) in
      λ i. sym w.told i ∷ told i;
  unresolved = λ standing is.
      subst (λ (s : BranchState). OpensAndResolves state next s.branch s.opened s.resolved) (same_Some _ _ (sym w.changed ∙ is)) w.changes;
}
comes_so state asked (Answer answer) seen w = record {
  replied = sym w.0;
  stays = λ none. refl;
  changed = λ standing is. absurd (none-some standing (sym w.1 ∙ is));
  unresolved = λ standing is. absurd (none-some standing (sym w.1 ∙ is));
}

pub foreseen_happens : ForeseenHappens
foreseen_happens state asked seen w =
    let so = comes_so state asked (step state asked) seen w in
    record {
      replied = so.replied;
      stays = so.stays;
      changed = so.changed;
      unresolved = λ standing is before after were are.
          changes_once state (state_after_decision state (step state asked)) standing.branch standing.opened standing.resolved before after (so.unresolved standing is) were (listed_there (state_after_decision state (step state asked)) standing.branch after are);
    }
