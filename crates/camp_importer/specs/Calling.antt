-- What a call does to the branches of a book, and why it is not accepted.
use Rattle.std.specs.Prelude.{◌≡◌, ◌≢◌, ℕ, Bool, true, false, List, Option, Some, option_and_then, Result, Ok, Err}
use Rattle.camp_call.specs.declared.calls.Call.{Call}
use Rattle.camp_call.specs.declared.replies.Refusal.{Refusal}
use Rattle.camp_call.specs.declared.replies.Refusal.TheVariants as refusal
use Rattle.camp_call.specs.declared.replies.Reply.{Reply}
use Rattle.camp_call.specs.declared.replies.Reply.TheVariants as reply
use Rattle.camp_catch.specs.declared.catches.Catch.{Catch}
use Rattle.camp_object.specs.Books.{Booked, IsEarlier, replay_book}
use Rattle.camp_object.specs.declared.objects.Decided.TheVariants.{Next, Answer}
use Rattle.camp_repo.specs.Lawful.{IsLawfulState}
use Rattle.camp_repo.specs.Objects.{repository}
use Rattle.camp_repo.specs.States.{Contents, catches_of}
use Rattle.camp_repo.specs.Steps.{step}
use Rattle.camp_importer.specs.declared.faults.Reason.{Reason}
use Rattle.camp_importer.specs.declared.faults.Reason.TheVariants.{Refused, TooManyChanges, Memory}

-- a book of calls of a repository
abbrev pub RepositoryBook : Type 0
RepositoryBook = Booked Contents Call

-- the catches of a branch after the calls of a book, if there is the branch
abbrev pub branch_in : RepositoryBook → List ℕ → Option (List Catch)
branch_in book name = option_and_then (λ state. catches_of state.branches name) (replay_book repository book)

-- a book has all calls of an earlier one, and no other branch has changed
pub record ContinuesOn (branch : List ℕ) (old new : RepositoryBook) : Type 0 where
  pub earlier : IsEarlier old new
  pub others : (other : List ℕ) → other ≢ branch → branch_in new other ≡ branch_in old other

-- a call is accepted as the next one of a book
pub record AcceptsNext (call : Call) (old new : RepositoryBook) : Type 0 where
  pub before : Contents
  pub after : Contents
  pub was : replay_book repository old ≡ Some before
  pub now : replay_book repository new ≡ Some after
  pub lawful : IsLawfulState before
  pub steps : step before call ≡ Next after
  pub earlier : IsEarlier old new

-- a call is refused after the calls of a book
pub record RefusesCall (call : Call) (refusal : Refusal) (book : RepositoryBook) : Type 0 where
  pub state : Contents
  pub replays : replay_book repository book ≡ Some state
  pub refuses : step state call ≡ Answer (reply.Refused refusal)

-- Ok: the call is the next one of the book; else the book stays as it is, and the call is refused or memory runs out
abbrev pub AnswersCall : Call → RepositoryBook → Result (Unit {0}) Reason → RepositoryBook → Type 0
AnswersCall call old (Ok done) new = AcceptsNext call old new
AnswersCall call old (Err (Refused refusal)) new = (new ≡ old) × RefusesCall call refusal old
AnswersCall call old (Err Memory) new = new ≡ old
AnswersCall call old (Err other) new = ⊥

-- the outcome of a call that writes, given its reply: accepted or refused; it gets no other reply
abbrev pub outcome_of : Reply → Result (Unit {0}) Reason
outcome_of (reply.Done number) = Ok tt
outcome_of (reply.Refused refusal) = Err (Refused refusal)
outcome_of other = Err Memory

-- a reason that no call caused: there are too many changes, or memory runs out
abbrev pub ComesWithoutCall : Reason → Type 0
ComesWithoutCall TooManyChanges = Unit {0}
ComesWithoutCall Memory = Unit {0}
ComesWithoutCall other = ⊥

-- Ok: a value with this property; else a reason that no call caused
abbrev pub OrWithoutCall : {A : Type 0} → (A → Type 0) → Result A Reason → Type 0
OrWithoutCall Is (Ok value) = Is value
OrWithoutCall Is (Err why) = ComesWithoutCall why

-- a reason is true after the calls of a book: the book refuses a call that the step makes, with this refusal; or no
-- call caused the reason
abbrev pub IsReason : (Call → Refusal → Type 0) → Reason → RepositoryBook → Type 0
IsReason Makes (Refused refusal) book = (call : Call) × Makes call refusal × RefusesCall call refusal book
IsReason Makes other book = ComesWithoutCall other

-- the calls accepted before the fault stay, no other branch has changed, and the reason is true
pub record FailsOn (Makes : Call → Refusal → Type 0) (branch : List ℕ) (old : RepositoryBook) (why : Reason) (new : RepositoryBook)
    : Type 0 where
  pub only : ContinuesOn branch old new
  pub reason : IsReason Makes why new

-- Ok: the branch has changed as this relation says; else a fault of a call that the step makes
abbrev pub OrFails :
    (RepositoryBook → RepositoryBook → Type 0) → (Call → Refusal → Type 0) → List ℕ → RepositoryBook
    → Result (Unit {0}) Reason → RepositoryBook → Type 0
OrFails Changes Makes branch old (Ok done) new = Changes old new
OrFails Changes Makes branch old (Err why) new = FailsOn Makes branch old why new

-- Ok: the branch has changed as the value says; else a fault of a call that the step makes
abbrev pub GivesOrFails :
    {A : Type 0} → (A → RepositoryBook → RepositoryBook → Type 0) → (Call → Refusal → Type 0) → List ℕ → RepositoryBook → Result A Reason → RepositoryBook → Type 0
GivesOrFails Changes Makes branch old (Ok value) new = Changes value old new
GivesOrFails Changes Makes branch old (Err why) new = FailsOn Makes branch old why new

-- what a refusal says of a pull: it would bring nothing, which counts as done, or it is blocked; any other is a fault
abbrev pub refused_outcome : Refusal → Result Bool Reason
refused_outcome refusal.NothingToDo = Ok true
refused_outcome (refusal.Depends patch on) = Ok false
refused_outcome (refusal.Diverged name) = Ok false
refused_outcome (refusal.NoMerge left right) = Ok false
refused_outcome other = Err (Refused other)

-- the outcome of a pull: true if it was accepted, or would bring nothing; false if it is blocked
abbrev pub pull_outcome : Result (Unit {0}) Reason → Result Bool Reason
pull_outcome (Ok done) = Ok true
pull_outcome (Err (Refused refusal)) = refused_outcome refusal
pull_outcome (Err why) = Err why
