-- Answering commands and requests removes no call from the history.
use Rattle.camp_talk.proofs.Words.{◌≡◌, ◌⊎◌, inl, inr, ℕ, List, [], ◌∷◌, length, Result, Ok, Err, Vec, ap, refl, sym, subst, Gives, LineFault, ScriptFault, AnswersCommand, SessionState, AnswersParsed, RunsOutOfMemory, parsed_command, Entries, Exchange, AnswersInOrder, ParsedCommand}
use Rattle.camp_object.specs.Books.{IsEarlier}
use Rattle.camp_object.proofs.SameBooks.{earlier_same, earlier_self, earlier_through}
use Rattle.camp_script.specs.declared.faults.ScriptFault.TheVariants as script
use Rattle.camp_talk.specs.Diagnostics.{Diagnostic, no_diagnostic}
use Rattle.camp_talk.specs.Engine.Commands.{AnswersFrame, ExecutesCommand}
use Rattle.camp_talk.specs.Inside.ExecutingNext.{RespondsTo}
use Rattle.camp_talk.specs.Requests.{AnswersRequest, AnswersSome, LosesAnswer}
use Rattle.camp_talk.specs.declared.faults.TalkFault.{TalkFault}
use Rattle.camp_talk.specs.declared.questions.ParsedCommand.TheVariants as parsed
use Rattle.camp_talk.specs.declared.readings.Command.{Command}
use Rattle.camp_talk.specs.declared.responses.Response.{Response}
use Rattle.camp_talk.specs.declared.responses.Response.TheVariants.{Done, Failed, OutOfMemory}

tells_grow : (before : SessionState) (what : Result ParsedCommand LineFault) (text : List ℕ) (now : Entries) → AnswersParsed before what text now → IsEarlier before.history now
tells_grow before (Ok (parsed.Call call)) text now replies = record { first = replies.asks.first; calls = replies.asks.asks.grows }
tells_grow before other text now reports = earlier_same before.history now reports.1

responds_grow : (before : SessionState) (lines : List (List ℕ)) (what : Result ParsedCommand LineFault) (response : Response) (now : Entries) (diagnostic : Diagnostic)
    → RespondsTo before lines what response now diagnostic → IsEarlier before.history now
responds_grow before lines what (Done text) now diagnostic responds = tells_grow before what text.items now responds.0.0
responds_grow before lines what (Failed why text) now diagnostic responds = earlier_same before.history now responds.2
responds_grow before lines what OutOfMemory now diagnostic responds = earlier_same before.history now responds.0

-- the response to a command, whatever it was parsed to
pub respond_grows : (before : SessionState) (lines : List (List ℕ)) (given : Result ParsedCommand ScriptFault) (response : Response) (now : Entries) (diagnostic : Diagnostic)
    → ((reading : Result ParsedCommand LineFault) → Gives given reading → RespondsTo before lines reading response now diagnostic) → IsEarlier before.history now
respond_grows before lines (Ok request) response now diagnostic responds =
    responds_grow before lines (Ok request) response now diagnostic (responds (Ok request) refl)
respond_grows before lines (Err (script.Line fault)) response now diagnostic responds =
    responds_grow before lines (Err fault) response now diagnostic (responds (Err fault) refl)
respond_grows before lines (Err script.Memory) response now diagnostic responds =
    responds_grow before lines (Ok parsed.Nothing) response now diagnostic (responds (Ok parsed.Nothing) tt)

grows_so : (before : SessionState) (command text : List ℕ) (now : Entries) → AnswersParsed before (parsed_command command) text now ⊎ RunsOutOfMemory before command text now → IsEarlier before.history now
grows_so before command text now (inl reports) = tells_grow before (parsed_command command) text now reports
grows_so before command text now (inr want) = earlier_same before.history now want.2

pub answers_grow : (before : SessionState) (command text : List ℕ) (after : SessionState) → AnswersCommand before command text after → IsEarlier before.history after.history
answers_grow before command text after answers = grows_so before command text after.history answers.reports

follow_grow : (first : SessionState) (exchanges : List Exchange) (last : SessionState) → AnswersInOrder first exchanges last → IsEarlier first.history last.history
follow_grow first [] last follow = subst (λ (s : SessionState). IsEarlier first.history s.history) follow (earlier_self first.history)
follow_grow first (exchange ∷ exchanges) last (next, command, answers, follow) =
    earlier_through (answers_grow first exchange.command exchange.answer next answers) (follow_grow next exchanges last follow)

-- the same of a request, whether or not it is answered whole
request_grows : (before : Entries) (request answer : List ℕ) (now : Entries) → AnswersRequest before request answer now → IsEarlier before now
request_grows before request answer now answers =
    subst (λ (l : Entries). IsEarlier before l) (sym answers.same)
    (earlier_through (follow_grow (record { history = before; lines = 0; diagnostic = no_diagnostic }) answers.exchanges answers.middle answers.follow)
    (answers_grow answers.middle answers.last.command answers.last.answer answers.after answers.answers))

some_grow : (before : Entries) (request answer : List ℕ) (now : Entries) (executed : ℕ) → AnswersSome before request answer now executed
    → IsEarlier before now
some_grow before request answer now executed some = ends some.leaves
  where
    so_far : IsEarlier before some.middle.history
    so_far = follow_grow (record { history = before; lines = 0; diagnostic = no_diagnostic }) some.exchanges some.middle some.follow

    ends : ((now ≡ some.middle.history) × (executed ≡ length some.exchanges)) ⊎ LosesAnswer some.middle some.rest now (length some.exchanges) executed
        → IsEarlier before now
    ends (inl still) = subst (λ (l : Entries). IsEarlier before l) (sym still.0) so_far
    ends (inr more) = earlier_through so_far (tells_grow some.middle (parsed_command more.last.command) more.last.answer now more.reports)

-- the same of a request in a frame
pub frame_grows : {Z : Type 0} (before : Entries) (request : List ℕ) (result : Result (Vec ℕ Z) TalkFault) (after : Entries)
    → AnswersFrame before request result after → IsEarlier before after
frame_grows before request (Ok answer) after answers = request_grows before request answer.items after answers
frame_grows before request (Err why) after (is, text, executed, some) = some_grow before request text after executed some

-- the same of a command that was read
pub command_grows : (before : SessionState) (command : Command) (result : Result Response TalkFault) (after : SessionState)
    → ExecutesCommand before command result after → IsEarlier before.history after.history
command_grows before command (Ok response) after (answers, grows) = grows
command_grows before command (Err why) after (is, same, many) = earlier_same before.history after.history (ap (λ (s : SessionState). s.history) same)
