-- What the answers of a head mean for callers.
use Rattle.camp_uses.proofs.Words.{◌≡◌, ℕ, false, true, List, Option, None, Some, MatchOption, Result, Ok, Err, refl, subst, sym, Files, LeadsTo, Catch, Call, Reply, Done, Tree, Caller, Says, IsAnswered, IsLegal, own, Fault, Memory, Busy, Full, Answer, Has, HistoriesGiveTrees, repository, Contents, catches_of, Decision, step}
use Rattle.camp_call.specs.declared.calls.Call.TheVariants as call
use Rattle.camp_object.specs.Asking.{Accepts}
use Rattle.camp_object.proofs.Asks.{accepted_before, accepted_writes}
use Rattle.camp_object.proofs.Replays.{begun_lawful}
use Rattle.camp_object.specs.Objects.{IsFirst, begun}
use Rattle.camp_repo.specs.Limits.{Bounds}
use Rattle.camp_repo.specs.Objects.{repository_within}
use Rattle.camp_repo.specs.ObjectLaws.{repository_is_lawful}
use Rattle.camp_uses.specs.Shared.{AddsIfDone, HistoryHasTree, HistoryLacksBranch, tree_in}

-- the calls of a caller, by what it was answered
pub grows : (first : Contents) (caller : Caller) (seen now : List (ℕ × Call)) (given : Call) (answer : Result Reply Fault) → Says (begun repository first) caller seen given answer now → AddsIfDone (own caller.seat seen) given answer (own caller.seat now)
grows first caller seen now given (Ok (Done at)) says = says.own_grows
grows first caller seen now given (Ok other) says = says.0.own_stays
grows first caller seen now given (Err Memory) says = says.own_stays
grows first caller seen now given (Err (Busy lost)) says = says.adds_nothing.own_stays
grows first caller seen now given (Err Full) says = says.adds_nothing.own_stays

-- one answer has one tree
same_tree : (one other : Files) (decision : Decision) → decision ≡ Answer (Tree one) → decision ≡ Answer (Tree other) → one ≡ other
same_tree one other decision first second = cc

-- a branch that has a tree is there
is_there : (state : Contents) (branch : List ℕ) (tree : Files) (found : Option (List Catch)) → catches_of state.branches branch ≡ found → step state (call.Tree branch) ≡ Answer (Tree tree) → (catches : List Catch) × Has state branch catches
is_there state branch tree (Some catches) is decision = (catches, is)
is_there state branch tree None is decision = let none = rw is at decision in cc

-- a tree that is answered is that of the branch after the history
pub holds : HistoriesGiveTrees → (limits : Bounds) (history : List (ℕ × Call)) (branch : List ℕ) (tree : Files) → IsAnswered (repository_within limits) history (call.Tree branch) (Tree tree) → HistoryHasTree limits history branch tree
holds law limits history branch tree answered =
    let there = is_there answered.state branch tree (catches_of answered.state.branches branch) refl answered.gives in
    let effects = law limits history answered.state branch there.0 answered.replays there.1 in
    record {
      state = answered.state;
      replays = answered.replays;
      catches = there.0;
      has = there.1;
      leads = subst (LeadsTo there.0) (same_tree effects.0 tree _ effects.3 answered.gives) effects.1;
    }

-- the question for a tree is never accepted
never_done : (first : Contents) → IsFirst repository first → (caller : Caller) (seen now : List (ℕ × Call)) (branch : List ℕ) (at : ℕ) → IsLegal (begun repository first) now → ¬ (Accepts caller seen (call.Tree branch) at now)
never_done first is caller seen now branch at legal accepts =
    let writes : false ≡ true = accepted_writes (begun repository first) (begun_lawful repository repository_is_lawful first is) accepts.before (call.Tree branch) (accepted_before (begun repository first) caller seen (call.Tree branch) at now accepts legal) in
    cc

-- no call of its caller is new, whatever is answered
pub asks_alone : (first : Contents) → IsFirst repository first → (caller : Caller) (seen now : List (ℕ × Call)) (branch : List ℕ) (answer : Result Reply Fault) → IsLegal (begun repository first) now → Says (begun repository first) caller seen (call.Tree branch) answer now → own caller.seat now ≡ own caller.seat seen
asks_alone first is caller seen now branch (Ok (Done at)) legal says =
    absurd (never_done first is caller seen now branch at legal says)
asks_alone first is caller seen now branch (Ok other) legal says = says.0.own_stays
asks_alone first is caller seen now branch (Err Memory) legal says = says.own_stays
asks_alone first is caller seen now branch (Err (Busy lost)) legal says = says.adds_nothing.own_stays
asks_alone first is caller seen now branch (Err Full) legal says = says.adds_nothing.own_stays

-- one state gives one answer
same_answer : (one other : Reply) (decision : Decision) → decision ≡ Answer one → decision ≡ Answer other → one ≡ other
same_answer one other decision first second = cc

-- if the answer has no tree, there is no branch
module _ (law : HistoriesGiveTrees) (limits : Bounds) (history : List (ℕ × Call)) (branch : List ℕ) (answer : Reply) (none : tree_in answer ≡ None) (answered : IsAnswered (repository_within limits) history (call.Tree branch) answer) where
  lacks_by : (found : Option (List Catch)) → catches_of answered.state.branches branch ≡ found → HistoryLacksBranch limits history branch
  lacks_by None is = record { state = answered.state; replays = answered.replays; lacks = is }
  lacks_by (Some catches) is =
      let effects = law limits history answered.state branch catches answered.replays is in
      let same = same_answer answer (Tree effects.0) _ answered.gives effects.3 in
      let some : Some effects.0 ≡ None = subst (λ reply. tree_in reply ≡ None) same none in
      cc

  lacks_branch : HistoryLacksBranch limits history branch
  lacks_branch = lacks_by (catches_of answered.state.branches branch) refl

-- a repository that begins with a first state is one with its limits
by_limits : (first : Contents) → IsFirst repository first → (history : List (ℕ × Call)) (given : Call) (answer : Reply) → IsAnswered (begun repository first) history given answer → IsAnswered (repository_within first.limits) history given answer
by_limits first is history given answer answered = subst (λ (state : Contents). IsAnswered (begun repository state) history given answer) (sym is.itself) answered

-- the tree in the answer is that of the branch, and if there is none in it there is no branch
pub found : HistoriesGiveTrees → (first : Contents) → IsFirst repository first → (caller : Caller) (seen now : List (ℕ × Call)) (branch : List ℕ) (answer : Reply) → IsLegal (begun repository first) now → Says (begun repository first) caller seen (call.Tree branch) (Ok answer) now → MatchOption (tree_in answer) (HistoryLacksBranch first.limits now branch) (HistoryHasTree first.limits now branch)
found law first is caller seen now branch (Done at) legal says = absurd (never_done first is caller seen now branch at legal says)
found law first is caller seen now branch (Tree tree) legal says = holds law first.limits now branch tree (by_limits first is now (call.Tree branch) (Tree tree) says.1)
found law first is caller seen now branch other legal says = lacks_branch law first.limits now branch other refl (by_limits first is now (call.Tree branch) other says.1)
