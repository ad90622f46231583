-- Calls that are executed, and lines by their number.
use Rattle.camp_talk.proofs.Words.{◌≡◌, zero, suc, List, [], ◌∷◌, drop, map, ℕ, Result, Ok, Err, Vec, refl, ap, sym, subst, true≢false, ◌∙◌, first_of, without_end, Call, Entries, reply_text, reports_failure}
use Rattle.std.proofs.Common.{◌+◌, ◌++◌, Some, length, length-append, unwrap_or}
use Rattle.std.specs.Global.{Global}
use Rattle.std.specs.List.{slice_get}
use Rattle.camp_call.specs.declared.replies.Reply.{Reply}
use Rattle.camp_call.specs.declared.replies.Reply.TheVariants as reply
use Rattle.camp_object.specs.Books.{AsksBook}
use Rattle.camp_object.proofs.SameBooks.{same_book}
use Rattle.camp_object.specs.declared.faults.Fault.TheVariants as fault
use Rattle.camp_questions.specs.declared.faults.Unanswered.{Unanswered}
use Rattle.camp_questions.specs.declared.faults.Unanswered.TheVariants as unanswered
use Rattle.camp_repo.specs.Objects.{reply_number, repository}
use Rattle.camp_talk.specs.Answers.{Replies}
use Rattle.camp_talk.specs.Inside.ExecutingNext.{RendersReply, RepliesTo}

module _ (old now : Entries) (call : Call) where
  -- a call for which memory ran out changes nothing
  pub want_keeps : AsksBook repository 0 old call (Err fault.Memory) now → now ≡ old
  want_keeps asks = same_book now old asks.first (asks.asks.says.exact refl)

  -- an accepted call has the next number
  pub next_number : (answer : Reply) (at : ℕ) → reply_number answer ≡ Some at → AsksBook repository 0 old call (Ok answer) now → answer ≡ reply.Done (length old.calls + 1)
  next_number (reply.Done n) at is asks =
      let grown : length now.calls ≡ length old.calls + 1 = ap length (asks.asks.says.ends ∙ ap (λ (l : List (ℕ × Call)). l ++ (0, call) ∷ []) (asks.asks.says.exact refl)) ∙ length-append old.calls ((0, call) ∷ []) in
      ap reply.Done (asks.asks.says.position ∙ grown)
  next_number other at is asks = cc

  -- a caller who is alone is never busy, and its seat never full
  pub never_busy : {A : Type 0} {lost : ℕ} → AsksBook repository 0 old call (Err (fault.Busy lost)) now → A
  never_busy asks = absurd (true≢false asks.asks.says.not_alone)

  pub never_full : {A : Type 0} → AsksBook repository 0 old call (Err fault.Full) now → A
  never_full asks = absurd (true≢false asks.asks.says.not_alone)

  -- the reply to a call, rendered
  module _ (accepted : List ℕ) (is_accepted : accepted ≡ reply_text (reply.Done (length old.calls + 1))) where
    done : (at : ℕ) → AsksBook repository 0 old call (Ok (reply.Done at)) now → (text : List ℕ) → text ≡ accepted → Replies old call text now
    done at asks text is = record {
      reply = reply.Done at;
      asks = asks;
      reports = is ∙ is_accepted ∙ ap reply_text (sym (next_number (reply.Done at) at refl asks));
    }

    -- nothing has changed, and this error says so
    unchanged : (why given : Unanswered) → why ≡ given → RepliesTo {Z = Global} old call (Err given) now → RepliesTo {Z = Global} old call (Err why) now
    unchanged why given is replies = subst (λ (why : Unanswered). RepliesTo {Z = Global} old call (Err why) now) (sym is) replies

    pub replies_so : (answer : Reply) → AsksBook repository 0 old call (Ok answer) now → (result : Result (Vec ℕ Global) Unanswered)
        → RendersReply accepted answer result → RepliesTo old call result now
    replies_so (reply.Done at) asks (Ok text) is = (done at asks text.items is, ap reports_failure (is ∙ is_accepted))
    replies_so (reply.Done at) asks (Err why) is = absurd is
    replies_so (reply.Refused refusal) asks (Ok text) is = absurd is
    replies_so (reply.Refused refusal) asks (Err why) is =
        unchanged why (unanswered.Refused refusal) is
        (record { reply = reply.Refused refusal; asks = asks; reports = refl }, same_book now old asks.first (asks.asks.says.0.exact refl))
    replies_so (reply.Tree tree) asks (Ok text) is =
        (record { reply = reply.Tree tree; asks = asks; reports = is }, ap reports_failure is)
    replies_so (reply.Conflicts pairs) asks (Ok text) is =
        (record { reply = reply.Conflicts pairs; asks = asks; reports = is }, ap reports_failure is)
    replies_so (reply.Names names) asks (Ok text) is =
        (record { reply = reply.Names names; asks = asks; reports = is }, ap reports_failure is)
    replies_so (reply.Tree tree) asks (Err why) is =
        unchanged why unanswered.Memory is (same_book now old asks.first (asks.asks.says.0.exact refl))
    replies_so (reply.Conflicts pairs) asks (Err why) is =
        unchanged why unanswered.Memory is (same_book now old asks.first (asks.asks.says.0.exact refl))
    replies_so (reply.Names names) asks (Err why) is =
        unchanged why unanswered.Memory is (same_book now old asks.first (asks.asks.says.0.exact refl))

-- ---- the line of a number

pub stands_at : (lines : List (List ℕ)) (n : ℕ) → without_end (unwrap_or (slice_get lines n) []) ≡ first_of (drop n (map without_end lines))
stands_at [] zero = refl
stands_at [] (suc n) = refl
stands_at (line ∷ lines) zero = refl
stands_at (line ∷ lines) (suc n) = stands_at lines n
