-- Members of a log, each with the number and the text that it returned last.
use Rattle.std.specs.Prelude.{◌≡◌, ◌⊎◌, ℕ, Bool, true, false, List, [], ◌∷◌, Result, Ok, Err, Option, Some, IfSome, slice_get}
use Rattle.camp_call.specs.declared.calls.Call.{Call}
use Rattle.camp_call.specs.declared.replies.Reply.{Reply}
use Rattle.camp_entries.specs.Texts.{IsNoted, noted_text}
use Rattle.camp_member.specs.Notes.{WithNote}
use Rattle.camp_member.specs.declared.requests.NoReply.{NoReply}
use Rattle.camp_script.specs.Texts.{reply_text}
use Rattle.camp_shared.specs.Asking.{WantsText}
use Rattle.camp_shared.specs.Sharing.{IsOpenedLog, Sharing}
use Rattle.camp_shared.specs.declared.wanting.TextWant.{TextWant}
use Rattle.camp_shared.specs.declared.wanting.TextWant.TheVariants as text_want
use Rattle.camp_shared_session.specs.declared.outcomes.Answered.{Answered}
use Rattle.camp_shared_session.specs.declared.outcomes.Answered.TheVariants as answered
use Rattle.camp_shared_session.specs.declared.outcomes.Wanted.{Wanted}
use Rattle.camp_shared_session.specs.declared.outcomes.Wanted.TheVariants as wanted

-- a member, and the number and the text that it returned last
pub record MemberSession : Type 0 where
  pub member : Sharing
  pub number : ℕ
  pub text : List ℕ

-- a new member of a seat, over a log with this title: its number is 0 and its text empty
abbrev pub IsOpenedSession : List ℕ → ℕ → MemberSession → Type 0
IsOpenedSession title seat session = IsOpenedLog title seat session.member × (session.number ≡ 0) × (session.text ≡ [])

-- the number and the text are unchanged
abbrev pub KeepsOutput : MemberSession → MemberSession → Type 0
KeepsOutput old new = (new.number ≡ old.number) × (new.text ≡ old.text)

-- the kind, the number and the text of what is wanted
abbrev pub IsSplitWant : TextWant → Wanted → ℕ → List ℕ → Type 0
IsSplitWant text_want.Nothing wanted.Nothing number text = (number ≡ 0) × (text ≡ [])
IsSplitWant (text_want.Read from) wanted.Read number text = (number ≡ from) × (text ≡ [])
IsSplitWant (text_want.Append own entry) wanted.Append number text = (number ≡ own) × (text ≡ entry.items)
IsSplitWant _ _ _ _ = ⊥

-- what a member wants of its log is returned in pieces: its kind is the result; its number and its text are those of
-- the session
pub record ReturnsWant (old : Sharing) (kind : Wanted) (new : MemberSession) : Type 0 where
  pub want : TextWant
  pub split : IsSplitWant want kind new.number new.text
  pub wants : WantsText old new.member want

-- the kind and the text of an answer
abbrev pub IsRenderedAnswer : Result Reply NoReply → Answered → List ℕ → Type 0
IsRenderedAnswer (Ok reply) answered.Reply text = text ≡ reply_text reply
IsRenderedAnswer (Err why) (answered.Without reason) text = (reason ≡ why) × (text ≡ [])
IsRenderedAnswer _ _ _ = ⊥

-- the first answer is removed, and returned with the number of its request
pub record TakesOneAnswer (old : MemberSession) (kind : Answered) (new : MemberSession) : Type 0 where
  pub answer : Result Reply NoReply
  pub rendered : IsRenderedAnswer answer kind new.text
  pub taken : old.member ≡ record new.member { answers = (new.number, answer) ∷ new.member.answers }

-- there is no answer, and nothing changes; or the first one is removed
abbrev pub TakesAnswer : MemberSession → Answered → MemberSession → Type 0
TakesAnswer old kind new = ((kind ≡ answered.Nothing) × (old.member.answers ≡ []) × (new ≡ old)) ⊎ TakesOneAnswer old kind new

-- the text is that of the accepted call at an index, after its note; the number is the index
pub record RendersOneCall (old : MemberSession) (at : ℕ) (new : MemberSession) : Type 0 where
  pub seat : ℕ
  pub call : WithNote Call
  pub accepted : slice_get old.member.reading.history at ≡ Some (seat, call)
  pub noted : IsNoted call
  pub new_is : new ≡ record { member = old.member; number = at; text = noted_text call }

-- the accepted call at an index is rendered; or nothing changes, and the history has none there, or one that no log can contain
abbrev pub RendersCall : MemberSession → ℕ → Bool → MemberSession → Type 0
RendersCall old at true new = RendersOneCall old at new
RendersCall old at false new = (new ≡ old) × IfSome (slice_get old.member.reading.history at) (λ accepted. ¬ (IsNoted accepted.1))
