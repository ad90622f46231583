-- Steps of a conversation, one after the other.
use Rattle.camp_talk.proofs.Words.{Call, refl, sym, ap, subst, ◌∙◌, ◌≢◌, ⊎_elim, cases_Bool, append-nil, flat_map, flat_map-append, first_of, true≢false, Gives, lines_of, LineFault, ScriptFault, AnswersCommand, SessionState, AnswersParsed, RunsOutOfMemory, parsed_command, IsCommand, IsLeft, Entries, IsReading, IsResponse, UpdatesDiagnostic, lines_in, is_silent, written, ParsedCommand, reports_failure, ◌≡◌, ◌≤◌, ◌⊎◌, inl, inr, ℕ, ◌+◌, ◌^◌, Bool, true, false, List, [], ◌∷◌, ◌++◌, length, length-append, Option, Some, Result, Ok, Err, Vec, Appends, Consumes, Appends-nil, Appends-trans, Consumes-nil, Consumes-trans, Exchange, Exchanges, AnswersInOrder, HasAnswered, ReadsNone, ReadsTooMuch, ReadsWithin}
use Rattle.std.specs.Global.{Global}
use Rattle.camp_call.specs.declared.replies.Refusal.{Refusal}
use Rattle.camp_object.specs.Books.{replay_book}
use Rattle.camp_questions.specs.declared.faults.Unanswered.{Unanswered}
use Rattle.camp_questions.specs.declared.faults.Unanswered.TheVariants as unanswered
use Rattle.camp_repo.specs.Objects.{repository}
use Rattle.camp_repo.specs.States.{Contents}
use Rattle.camp_talk.proofs.Failing.{question_plain}
use Rattle.camp_talk.specs.Answers.{ClosesDiagnostic, KeepsDiagnostic, KeepsRefusal, UpdatesByRequest, asks_nothing}
use Rattle.camp_talk.specs.Diagnostics.{Diagnostic, closed, fault_diagnostic}
use Rattle.camp_talk.specs.FaultTexts.{fault_text}
use Rattle.camp_talk.specs.Inside.ExecutingNext.{ExecutesRequest, RefusesRequest, RepliesTo, RespondsTo, UnlessSilent}
use Rattle.camp_talk.specs.Inside.Responses.{GivesAnswer, IsOutOfMemory}
use Rattle.camp_talk.specs.QuestionAnswers.{AnswersQuestionAt}
use Rattle.camp_talk.specs.Reports.{RendersWhy}
use Rattle.camp_talk.specs.declared.faults.TalkFault.{TalkFault}
use Rattle.camp_talk.specs.declared.faults.TalkFault.TheVariants.{Memory, Read}
use Rattle.camp_talk.specs.declared.questions.ParsedCommand.TheVariants as parsed
use Rattle.camp_talk.specs.declared.questions.ParsedCommand.TheVariants.{Nothing}
use Rattle.camp_talk.specs.declared.questions.Question.{Question}
use Rattle.camp_talk.specs.declared.responses.Failure.TheVariants as failure
use Rattle.camp_talk.specs.declared.responses.Response.{Response}
use Rattle.camp_talk.specs.declared.responses.Response.TheVariants.{Done, Failed, OutOfMemory}

-- ---- the response to a command

-- a request is executed; the rest of its response
module _ (before : SessionState) (lines : List (List ℕ)) (request : ParsedCommand) where
  -- it asks nothing
  pub nothing_responded : (text : Vec ℕ Global) → text.items ≡ [] → asks_nothing request ≡ true
      → RespondsTo before lines (Ok request) (Done text) before.history before.diagnostic
  nothing_responded text none is = (
    (silent_answered request none is, subst (λ (b : Bool). UpdatesByRequest b before (first_of lines) request text.items before.diagnostic) (sym is) refl),
    ap reports_failure none,
  )
    where
      silent_answered : (request : ParsedCommand) → text.items ≡ [] → asks_nothing request ≡ true → AnswersParsed before (Ok request) text.items before.history
      silent_answered parsed.Nothing none is = (none, refl)
      silent_answered (parsed.Call call) none is = absurd (true≢false (sym is))
      silent_answered (parsed.Question question) none is = absurd (true≢false (sym is))
      silent_answered parsed.Why none is = absurd (true≢false (sym is))

  module _ (asks : asks_nothing request ≡ false) (now : Entries) where
    updated : (text : List ℕ) (diagnostic : Diagnostic) → ClosesDiagnostic before text diagnostic ⊎ KeepsRefusal before (first_of lines) request text diagnostic
        → UpdatesDiagnostic before lines (Ok request) text diagnostic
    updated text diagnostic updates = subst (λ (b : Bool). UpdatesByRequest b before (first_of lines) request text diagnostic) (sym asks) updates

    -- it was done
    pub done_responded : (text : Vec ℕ Global) → ExecutesRequest {Z = Global} before request (Ok text) now
        → RespondsTo before lines (Ok request) (Done text) now (closed before.diagnostic)
    done_responded text executes = ((executes.0, updated text.items (closed before.diagnostic) (inl (executes.1, refl))), executes.1)

    -- it was refused
    pub refused_responded : (refusal : Refusal) (state : Contents) (response : Response) (after : Diagnostic)
        → ExecutesRequest {Z = Global} before request (Err (unanswered.Refused refusal)) now → replay_book repository now ≡ Some state
        → RefusesRequest state before.diagnostic (first_of lines) request refusal response after
        → RespondsTo before lines (Ok request) response now after
    refused_responded refusal state (Done text) after executes leads is = absurd is
    refused_responded refusal state (Failed why text) after executes leads is = (
      (
        subst (λ (text : List ℕ). AnswersParsed before (Ok request) text now) (sym is.1) executes.0,
        updated text.items after (inr (record {
          refusal = refusal;
          reports = is.1;
          state = state;
          leads = ap (replay_book repository) (sym executes.1) ∙ leads;
          is = is.2;
        })),
      ),
      (refusal, is.0, is.1),
      executes.1,
    )
    refused_responded refusal state OutOfMemory after executes leads is = (executes.1, is)

-- a command with a fault is answered, and kept
pub fault_responded : (before : SessionState) (lines : List (List ℕ)) (fault : LineFault) (text : Vec ℕ Global) (after : Diagnostic)
    → text.items ≡ fault_text (before.lines + fault.line) fault.kind → after ≡ fault_diagnostic before.diagnostic before.lines fault lines
    → RespondsTo before lines (Err fault) (Failed (failure.Fault fault) text) before.history after
fault_responded before lines fault text after is updates = (((is, refl), updates), refl, refl)

-- a command asks something if its request does
abbrev asks_in : Result ParsedCommand ScriptFault → Bool
asks_in (Ok request) = asks_nothing request
asks_in (Err why) = false

pub asks_something : (given : Result ParsedCommand ScriptFault) (request : ParsedCommand) → given ≡ Ok request → asks_nothing request ≡ false → given ≢ Ok Nothing
asks_something given request is asks none = true≢false (sym (ap asks_in (sym is ∙ none)) ∙ asks)

-- what is executed, by the request
pub nothing_executes : (before : SessionState) (text : Vec ℕ Global) → text.items ≡ [] → ExecutesRequest before parsed.Nothing (Ok text) before.history
nothing_executes before text none = ((none, refl), ap reports_failure none)

pub call_executes : (before : SessionState) (call : Call) (result : Result (Vec ℕ Global) Unanswered) (now : Entries)
    → RepliesTo before.history call result now → ExecutesRequest before (parsed.Call call) result now
call_executes before call (Ok text) now replies = replies
call_executes before call (Err (unanswered.Refused refusal)) now replies = replies
call_executes before call (Err unanswered.Memory) now replies = replies

pub question_executes : (before : SessionState) (q : Question) (result : Result (Vec ℕ Global) Unanswered) (state : Contents)
    → replay_book repository before.history ≡ Some state → GivesAnswer (AnswersQuestionAt before.history.calls state q) result
    → ExecutesRequest before (parsed.Question q) result before.history
question_executes before q (Ok text) state leads is =
    (((Ok text.items, (state, leads, is), refl), refl), question_plain before.history.calls state q text.items is)
question_executes before q (Err (unanswered.Refused refusal)) state leads is = (((Err refusal, (state, leads, is), refl), refl), refl)
question_executes before q (Err unanswered.Memory) state leads is = refl

pub why_executes : (before : SessionState) (text : Vec ℕ Global) → RendersWhy before.diagnostic text.items → ExecutesRequest before parsed.Why (Ok text) before.history
why_executes before text is = ((is, refl), ap reports_failure is.1)

-- the response to the command that was read
module _ (before : SessionState) (now : Entries) (diagnostic : Diagnostic) (command : List ℕ) (lines : List (List ℕ))
    (was : Result ParsedCommand ScriptFault) (gives : Gives was (parsed_command command)) (same : lines ≡ lines_in command) where
  pub responded : (response : Response)
      → ((reading : Result ParsedCommand LineFault) → Gives was reading → RespondsTo before lines reading response now diagnostic)
      → (IsOutOfMemory response → was ≢ Ok Nothing) → (is_silent command ≡ true → was ≡ Ok Nothing) → IsResponse before command response now diagnostic
  responded response responds something silent = (
    subst (λ (ls : List (List ℕ)). RespondsTo before ls (parsed_command command) response now diagnostic) same (responds (parsed_command command) gives),
    unless response something,
  )
    where
      unless : (response : Response) → (IsOutOfMemory response → was ≢ Ok Nothing) → UnlessSilent command response
      unless (Done text) something = tt
      unless (Failed why text) something = tt
      unless OutOfMemory something = ⊎_elim (λ is. absurd (something tt (silent is))) (λ says. says) (cases_Bool (is_silent command))

module _ (before after : SessionState) (command : List ℕ) where
  answered_by : (response : Response) → IsResponse before command response after.history after.diagnostic
      → AnswersParsed before (parsed_command command) (written response) after.history ⊎ RunsOutOfMemory before command (written response) after.history
  answered_by (Done text) says = inl says.0.0.0
  answered_by (Failed why text) says = inl says.0.0.0
  answered_by OutOfMemory says = inr (says.1, refl, says.0.0)

  updated_by : (response : Response) → IsResponse before command response after.history after.diagnostic
      → UpdatesDiagnostic before (lines_in command) (parsed_command command) (written response) after.diagnostic ⊎ KeepsDiagnostic before (written response) after.diagnostic
  updated_by (Done text) says = inl says.0.0.1
  updated_by (Failed why text) says = inl says.0.0.1
  updated_by OutOfMemory says = inr (refl, says.0.1)

  pub answered : (response : Response) → IsResponse before command response after.history after.diagnostic
      → after.lines ≡ before.lines + length (lines_of command) → AnswersCommand before command (written response) after
  answered response says counts = record { reports = answered_by response says; counts = counts; updates = updated_by response says }

-- no command was read
module _ (a b : Option (List ℕ)) (before : SessionState) where
  pub reads_none : (why : TalkFault) → IsReading why → ReadsWithin a b → ReadsNone a b before why
  reads_none Memory is within = within
  reads_none (Read error) is within = within
  reads_none other is within = absurd is

  -- the lines of what was read have no numbers
  pub reads_too_much : (some : List ℕ) → Consumes a b some → IsLeft some → 2 ^ 64 ≤ before.lines + length (lines_of some) + 1
      → ReadsTooMuch a b before
  reads_too_much some reads is many = record { some = some; reads = reads; is = is; many = many }

-- one more command is answered
pub one_more : (first middle last : SessionState) (exchanges : List Exchange) (more : Exchange) → AnswersInOrder first exchanges middle
    → IsCommand more.command → AnswersCommand middle more.command more.answer last → AnswersInOrder first (exchanges ++ more ∷ []) last
one_more first middle last [] more follow is answers =
    subst (λ standing. AnswersInOrder standing (more ∷ []) last) (sym follow) (last, is, answers, refl)
one_more first middle last (exchange ∷ exchanges) more (next, command, answered, follow) is answers =
    (next, command, answered, one_more next middle last exchanges more follow is answers)

module _ (a b c old held new : Option (List ℕ)) (first middle last : SessionState) where
  pub holds_on : HasAnswered a b old held first middle → Exchanges b c held new true middle last → HasAnswered a c old new first last
  holds_on holds exchanges = record {
    exchanges = holds.exchanges ++ more ∷ [];
    follow = one_more first middle last holds.exchanges more holds.follow exchanges.reads.1 exchanges.answers;
    reads = subst (Consumes a c) (joined (λ e. e.command) refl)
        (Consumes-trans a b c _ _ holds.reads exchanges.reads.0);
    writes = subst (Appends old new) (joined (λ e. e.answer) refl)
        (Appends-trans old held new _ _ holds.writes exchanges.writes);
  }
    where
      more : Exchange
      more = exchanges.exchange

      joined : {bytes : List ℕ} (part : Exchange → List ℕ) → part more ≡ bytes
          → flat_map part holds.exchanges ++ bytes ≡ flat_map part (holds.exchanges ++ more ∷ [])
      joined part is =
          ap (λ bytes. flat_map part holds.exchanges ++ bytes) (sym is ∙ sym (append-nil (part more)))
          ∙ sym (flat_map-append part holds.exchanges (more ∷ []))

  pub counts_one_more : (holds : HasAnswered a b old held first middle) (exchanges : Exchanges b c held new true middle last)
      → length (holds_on holds exchanges).exchanges ≡ length holds.exchanges + 1
  unfolding holds_on
  counts_one_more holds exchanges = length-append holds.exchanges (exchanges.exchange ∷ [])

pub begins_so : (a old : Option (List ℕ)) (first : SessionState) → HasAnswered a a old old first first
begins_so a old first = record { exchanges = []; follow = refl; reads = Consumes-nil a; writes = Appends-nil old }

pub counts_none : (a old : Option (List ℕ)) (first : SessionState) → length (begins_so a old first).exchanges ≡ 0
unfolding begins_so
counts_none a old first = refl
