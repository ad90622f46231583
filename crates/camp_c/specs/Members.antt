-- The effect of each export of members on a handle, by the value of the handle. The codes are those of Handles, and: 16, the
-- log has no title; 17, the text is not one call; 18, the call is too long; 19, the entry is foreign; 20, another entry is next;
-- 21, nothing; 22, to read; 23, to append; 24, a reply; 25, 26 and 27, no reply, since the log refused the entry, ends, or was
-- read up to a foreign entry; 28, a request waits.
use Rattle.std.specs.Prelude.{◌≡◌, ◌≢◌, ◌<◌, ◌⊎◌, ℕ, ℤ, pos, true, false, List, [], Some, None, Result, Ok, Err}
use Rattle.camp_member.specs.Members.{without_reply}
use Rattle.camp_member.specs.Telling.{MemberAdvances}
use Rattle.camp_member.specs.Wanting.{IsStopped}
use Rattle.camp_member.specs.declared.faults.ReadFault.{ReadFault}
use Rattle.camp_member.specs.declared.faults.ReadFault.TheVariants as read
use Rattle.camp_member.specs.declared.requests.NoReply.TheVariants as no_reply
use Rattle.camp_object.specs.Histories.{replay}
use Rattle.camp_repo.specs.States.{Contents}
use Rattle.camp_shared.specs.Asking.{AsksText, EndsTexts, FindsText, RestoresText}
use Rattle.camp_shared.specs.Sharing.{IsNotOpened, shared_from}
use Rattle.camp_shared.specs.declared.faults.AskFault.{AskFault}
use Rattle.camp_shared.specs.declared.faults.AskFault.TheVariants as ask
use Rattle.camp_shared.specs.declared.faults.OpenFault.{OpenFault}
use Rattle.camp_shared.specs.declared.faults.OpenFault.TheVariants as open_fault
use Rattle.camp_shared_session.specs.Sessions.{IsOpenedSession, KeepsOutput, MemberSession, RendersCall, ReturnsWant, TakesAnswer}
use Rattle.camp_shared_session.specs.declared.outcomes.Answered.{Answered}
use Rattle.camp_shared_session.specs.declared.outcomes.Answered.TheVariants as answered
use Rattle.camp_shared_session.specs.declared.outcomes.Wanted.{Wanted}
use Rattle.camp_shared_session.specs.declared.outcomes.Wanted.TheVariants as wanted
use Rattle.camp_c.specs.Handles.{HandleState, OpensFrom, member_in}
use Rattle.camp_c.specs.declared.objects.OpenObject.TheVariants.{Member, View}

-- the code for why there is no member
abbrev pub code_of_opening : OpenFault → ℤ
code_of_opening open_fault.Memory = pos 2
code_of_opening open_fault.NoTitle = pos 16

-- the code for how a call was queued
abbrev pub code_of_asking : Result (Unit {0}) AskFault → ℤ
code_of_asking (Ok done) = pos 0
code_of_asking (Err ask.Memory) = pos 2
code_of_asking (Err ask.NoCall) = pos 17
code_of_asking (Err ask.TooLong) = pos 18

-- the code for how an entry was read
abbrev pub code_of_reading : Result (Unit {0}) ReadFault → ℤ
code_of_reading (Ok done) = pos 0
code_of_reading (Err read.Memory) = pos 2
code_of_reading (Err (read.Foreign index)) = pos 19
code_of_reading (Err (read.OutOfOrder index)) = pos 20

-- the code for what a member wants of its log
abbrev pub code_of_want : Wanted → ℤ
code_of_want wanted.Nothing = pos 21
code_of_want wanted.Read = pos 22
code_of_want wanted.Append = pos 23

-- the code for the kind of an answer
abbrev pub code_of_answer : Answered → ℤ
code_of_answer answered.Nothing = pos 21
code_of_answer answered.Reply = pos 24
code_of_answer (answered.Without no_reply.Refused) = pos 25
code_of_answer (answered.Without no_reply.Ended) = pos 26
code_of_answer (answered.Without no_reply.Stopped) = pos 27

-- a handle is opened on a new member over a log with this title, or the code says why there is none
abbrev pub OpensOneMember : ℕ → List ℕ → ℤ → HandleState → Type 0
OpensOneMember seat title code now =
    ((code ≡ pos 0) × (new : MemberSession) × IsOpenedSession title seat new × (now ≡ Some (Member new)))
    ⊎ ((fault : OpenFault) × IsNotOpened title fault × (code ≡ code_of_opening fault) × (now ≡ None))

-- a member takes another seat if no request waits; else it is unchanged
abbrev pub TakesSeat : ℕ → MemberSession → ℤ → MemberSession → Type 0
TakesSeat seat old code new =
    ((code ≡ pos 0) × (old.member.waiting ≡ []) × (new.member ≡ record old.member { seat = seat }) × KeepsOutput old new)
    ⊎ ((code ≡ pos 28) × (old.member.waiting ≢ []) × (new ≡ old))

-- the call of a text is queued at a member, or the code says why not
pub record AsksOneCall (id : ℕ) (text : List ℕ) (at_least : ℕ) (old : MemberSession) (code : ℤ) (new : MemberSession) : Type 0 where
  pub outcome : Result (Unit {0}) AskFault
  pub asks : AsksText id text at_least old.member outcome new.member
  pub keeps : KeepsOutput old new
  pub reports : code ≡ code_of_asking outcome

-- what a member wants is returned as its code; or memory ran out, and the number and the text are unchanged
abbrev pub ReportsWant : MemberSession → ℤ → MemberSession → Type 0
ReportsWant old code new =
    ((kind : Wanted) × ReturnsWant old.member kind new × (code ≡ code_of_want kind)) ⊎ ((code ≡ pos 2) × KeepsOutput old new)

-- a member returns what it wants of its log
pub record WantsOne (old : MemberSession) (code : ℤ) (new : MemberSession) : Type 0 where
  pub reports : ReportsWant old code new
  pub stays : 0 < old.member.sent → new.member ≡ old.member
  pub reading : new.member.reading ≡ old.member.reading
  pub is_stopped : new.member.is_stopped ≡ old.member.is_stopped
  pub goes : MemberAdvances (shared_from old.member.reading.first) (IsStopped (shared_from old.member.reading.first) old.member) old.member new.member

-- a member reads a text of its log, or the code says why not
pub record FindsOne (index : ℕ) (text : List ℕ) (old : MemberSession) (code : ℤ) (new : MemberSession) : Type 0 where
  pub outcome : Result (Unit {0}) ReadFault
  pub finds : FindsText old.member index text outcome new.member
  pub goes : MemberAdvances (shared_from old.member.reading.first) (λ _ _. ⊥) old.member new.member
  pub keeps : KeepsOutput old new
  pub reports : code ≡ code_of_reading outcome

-- a member restores a text of a snapshot of its log, or the code says why not
pub record RestoresOne (index : ℕ) (text : List ℕ) (old : MemberSession) (code : ℤ) (new : MemberSession) : Type 0 where
  pub outcome : Result (Unit {0}) ReadFault
  pub restores : RestoresText old.member index text outcome new.member
  pub goes : MemberAdvances (shared_from old.member.reading.first) (λ _ _. ⊥) old.member new.member
  pub keeps : KeepsOutput old new
  pub reports : code ≡ code_of_reading outcome

-- the requests of the entry of a member, which the log refused, get no reply; or memory ran out
pub record RefusesOne (old : MemberSession) (code : ℤ) (new : MemberSession) : Type 0 where
  pub refused : ((code ≡ pos 0) × (new.member ≡ without_reply no_reply.Refused old.member)) ⊎ ((code ≡ pos 2) × (new ≡ old))
  pub goes : MemberAdvances (shared_from old.member.reading.first) (λ _ why. why ≡ no_reply.Refused) old.member new.member
  pub keeps : KeepsOutput old new

-- the log of a member ends at an index, or memory ran out
pub record EndsOne (index : ℕ) (old : MemberSession) (code : ℤ) (new : MemberSession) : Type 0 where
  pub ends : ((code ≡ pos 0) × EndsTexts old.member index new.member) ⊎ ((code ≡ pos 2) × (new ≡ old))
  pub goes : MemberAdvances (shared_from old.member.reading.first) (λ _ why. why ≡ no_reply.Ended) old.member new.member
  pub keeps : KeepsOutput old new

-- the next answer is removed, and the code says its kind; or memory ran out, and nothing has changed
pub record RemovesAnswer (old : MemberSession) (code : ℤ) (new : MemberSession) : Type 0 where
  pub takes : ((kind : Answered) × TakesAnswer old kind new × (code ≡ code_of_answer kind)) ⊎ ((code ≡ pos 2) × (new ≡ old))

-- an accepted call is rendered, or there is none; or memory ran out, and nothing has changed
abbrev pub RendersOne : ℕ → MemberSession → ℤ → MemberSession → Type 0
RendersOne at old code new =
    ((code ≡ pos 0) × RendersCall old at true new) ⊎ ((code ≡ pos 21) × RendersCall old at false new) ⊎ ((code ≡ pos 2) × (new ≡ old))

-- a handle is opened on a view of the repository after what a member has read, or memory ran out and it stays closed
abbrev pub OpensOneOfMember : MemberSession → ℤ → HandleState → Type 0
OpensOneOfMember session code now =
    ((code ≡ pos 0) × (state : Contents)
    × (replay (shared_from session.member.reading.first) session.member.reading.history ≡ Some state)
    × (now ≡ Some (View (record { state = state; answer = [] }))))
    ⊎ ((code ≡ pos 2) × (now ≡ None))

-- a closed handle is opened on a view of the repository after what the member of another handle has read
abbrev pub OpensViewOfMember : HandleState → HandleState → ℤ → HandleState → Type 0
OpensViewOfMember from = OpensFrom OpensOneOfMember (member_in from) from
