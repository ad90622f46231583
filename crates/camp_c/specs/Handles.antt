-- The effect of each export on a handle, by the value of the handle: none, a repository, a view or a member. The codes are 0,
-- done; 1, the handle is closed; 2, out of memory; 3, a limit is out of range; 4, the handle to be opened is open
-- already; 5, the handle has a value of another kind.
use Rattle.std.specs.Prelude.{◌≡◌, ◌⊎◌, ℕ, ℤ, pos, List, [], Option, Some, None, Result, Ok, Err}
use Rattle.std.specs.Option.{option_map_or}
use Rattle.camp_repo.specs.Limits.{Bounds}
use Rattle.camp_repo.specs.declared.faults.LimitFault.{LimitFault}
use Rattle.camp_shared_session.specs.Sessions.{MemberSession}
use Rattle.camp_talk.specs.Sessions.{Asks, Repository, Sees, Snapshot, Views, new_repository}
use Rattle.camp_talk.specs.declared.faults.TalkFault.{TalkFault}
use Rattle.camp_c.specs.declared.objects.OpenObject.{OpenObject}
use Rattle.camp_c.specs.declared.objects.OpenObject.TheVariants.{Member, Session, View}

-- the value of a handle
abbrev pub HandleState : Type 0
HandleState = Option OpenObject

-- the repository of a handle, if its value is one
abbrev pub repository_in : HandleState → Option Repository
repository_in (Some (Session repository)) = Some repository
repository_in other = None

-- the view of a handle, if its value is one
abbrev pub view_in : HandleState → Option Snapshot
view_in (Some (View view)) = Some view
view_in other = None

-- the member of a handle, if its value is one
abbrev pub member_in : HandleState → Option MemberSession
member_in (Some (Member member)) = Some member
member_in other = None

-- the answer of the repository of a handle; empty without one
abbrev pub answer_of : HandleState → List ℕ
answer_of state = option_map_or (λ repository. repository.answer) (repository_in state) []

-- the answer of the view of a handle; empty without one
abbrev pub answer_of_view : HandleState → List ℕ
answer_of_view state = option_map_or (λ view. view.answer) (view_in state) []

-- the text that the member of a handle returned last; empty without one
abbrev pub text_of_member : HandleState → List ℕ
text_of_member state = option_map_or (λ member. member.text) (member_in state) []

-- the code for a handle that has no value of the kind that a call needs: it is closed, or its value is of another kind
abbrev pub unsuitable : HandleState → ℤ
unsuitable None = pos 1
unsuitable (Some other) = pos 5

-- the code for a handle that is to be opened and is open already
abbrev pub already_open : ℤ
already_open = pos 4

-- nothing is done, for this reason, and the value of the handle is unchanged
abbrev pub HandleRefuses : (why : ℤ) → HandleState → ℤ → HandleState → Type 0
HandleRefuses why old code now = (code ≡ why) × (now ≡ old)

-- ---- values of a kind, given how they are values of a handle

-- the value of a kind in a handle changes, given the code and the value after it; without one the handle is unchanged
abbrev pub ChangesValue : {K : Type 0} → (K → OpenObject) → (K → ℤ → K → Type 0) → Option K → HandleState → ℤ → HandleState → Type 0
ChangesValue value Changes None before code now = HandleRefuses (unsuitable before) before code now
ChangesValue value Changes (Some old) before code now = (new : _) × Changes old code new × (now ≡ Some (value new))

-- the repository of a handle changes
abbrev pub OnRepository : (Repository → ℤ → Repository → Type 0) → HandleState → ℤ → HandleState → Type 0
OnRepository Changes before = ChangesValue Session Changes (repository_in before) before

-- the view of a handle changes
abbrev pub OnView : (Snapshot → ℤ → Snapshot → Type 0) → HandleState → ℤ → HandleState → Type 0
OnView Changes before = ChangesValue View Changes (view_in before) before

-- the member of a handle changes
abbrev pub OnMember : (MemberSession → ℤ → MemberSession → Type 0) → HandleState → ℤ → HandleState → Type 0
OnMember Changes before = ChangesValue Member Changes (member_in before) before

-- ---- handles that are opened

-- a closed handle is opened, given its code and its value after that; an open one is unchanged
abbrev pub OpensClosed : (ℤ → HandleState → Type 0) → HandleState → ℤ → HandleState → Type 0
OpensClosed Makes None code now = Makes code now
OpensClosed Makes old code now = HandleRefuses already_open old code now

-- a handle is opened on this value, or memory ran out and it stays closed
abbrev pub OpensOn : OpenObject → ℤ → HandleState → Type 0
OpensOn value code now = ((code ≡ pos 0) × (now ≡ Some value)) ⊎ ((code ≡ pos 2) × (now ≡ None))

-- a closed handle is opened, given the value of a kind in another handle
abbrev pub OpensFrom : {K : Type 0} → (K → ℤ → HandleState → Type 0) → Option K → (from old : HandleState) → ℤ → HandleState → Type 0
OpensFrom Makes None from old code now = HandleRefuses (unsuitable from) old code now
OpensFrom Makes (Some value) from old code now = OpensClosed (Makes value) old code now

-- ---- repositories and views

-- a closed handle is opened on a new repository with these limits, or memory ran out
abbrev pub OpensRepository : Bounds → HandleState → ℤ → HandleState → Type 0
OpensRepository limits = OpensClosed (OpensOn (Session (new_repository limits)))

-- a closed handle is opened as above if the numbers are limits; else the handle is unchanged, and the code says why
abbrev pub OpensWithin : Result Bounds LimitFault → HandleState → ℤ → HandleState → Type 0
OpensWithin (Ok limits) = OpensRepository limits
OpensWithin (Err fault) = OpensClosed (HandleRefuses (pos 3) None)

-- the code for the outcome of a text: 0 if all its commands were executed, else 2
abbrev pub code_of : Result (Unit {0}) TalkFault → ℤ
code_of (Ok done) = pos 0
code_of (Err why) = pos 2

-- a repository is asked a text
pub record AsksOne (text : List ℕ) (old : Repository) (code : ℤ) (new : Repository) : Type 0 where
  pub outcome : Result (Unit {0}) TalkFault
  pub asks : Asks old text outcome new
  pub reports : code ≡ code_of outcome

-- a view is asked a text
pub record SeesOne (text : List ℕ) (old : Snapshot) (code : ℤ) (new : Snapshot) : Type 0 where
  pub outcome : Result (Unit {0}) TalkFault
  pub sees : Sees old text outcome new
  pub reports : code ≡ code_of outcome

-- a handle is opened on a view of a repository, or memory ran out and it stays closed
abbrev pub OpensOne : Repository → ℤ → HandleState → Type 0
OpensOne repository code now =
    ((code ≡ pos 0) × (view : Snapshot) × Views repository view × (now ≡ Some (View view)))
    ⊎ ((code ≡ pos 2) × (now ≡ None))

-- a closed handle is opened on a view of the repository of another handle
abbrev pub OpensView : HandleState → HandleState → ℤ → HandleState → Type 0
OpensView from = OpensFrom OpensOne (repository_in from) from

-- a view with the same state and an empty answer
abbrev pub again : Snapshot → Snapshot
again view = record { state = view.state; answer = [] }

-- a closed handle is opened on a view with the state of another view
abbrev pub OpensViewAgain : HandleState → HandleState → ℤ → HandleState → Type 0
OpensViewAgain from = OpensFrom (λ view. OpensOn (View (again view))) (view_in from) from
