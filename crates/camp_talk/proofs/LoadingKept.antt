-- Loads the text that stores a history, call by call.
use Rattle.camp_talk.specs.Diagnostics.{no_diagnostic}
use Rattle.camp_talk.proofs.Words.{◌≡◌, ◌⊎◌, inl, inr, ℕ, Bool, true, false, List, [], ◌∷◌, ◌++◌, length, map, drop, Option, None, Some, Result, Ok, Err, refl, sym, ap, subst, ◌∙◌, append_assoc, append-nil, map-append, drop-append_seam, true≢false, flat_map, All, All-head, All-tail, Call, LineFault, reply_text, SessionState, AnswersParsed, RunsOutOfMemory, parsed_command, Entries, Exchange, AnswersInOrder, IsCommand, IsLeft, ReadsCommand, Done, Fails, ReportsSuccess, reports_failure, ParsedCommand}
use Rattle.std.proofs.Common.{IsSome}
use Rattle.std.proofs.lemmas.List.Concat.{flat_map-cons}
use Rattle.std.specs.List.{AllByRecursion}
use Rattle.std.specs.Option.{option_and_then}
use Rattle.camp_call.specs.declared.replies.Reply.{Reply}
use Rattle.camp_call.specs.declared.replies.Reply.TheVariants as reply
use Rattle.camp_object.specs.Books.{AsksBook, IsEarlier, new_book, replay_book}
use Rattle.camp_object.specs.Histories.{IsAccepted, IsAnswered, IsLegal, run}
use Rattle.camp_object.specs.Objects.{begun}
use Rattle.camp_object.proofs.Replays.{legal_front, replay_more, some_is_some}
use Rattle.camp_object.proofs.SameBooks.{same_book}
use Rattle.camp_repo.specs.Objects.{repository}
use Rattle.camp_repo.specs.States.{Contents}
use Rattle.camp_script.specs.Canonical.{IsScriptCall, call_text, section_text}
use Rattle.camp_script.specs.Keeping.{calls_of, kept_text}
use Rattle.camp_talk.specs.Laws.{IsReadWhole, KeepRestoresHistory, RestoresHistory, at_seat_0}
use Rattle.camp_talk.specs.Loads.{Ends, EndsWell}
use Rattle.camp_talk.specs.declared.faults.LoadFault.{LoadFault}
use Rattle.camp_talk.specs.declared.faults.LoadFault.TheVariants.{Answer, Memory, Talk}
use Rattle.camp_talk.proofs.CanonicalCommands.{asks_call, is_command, left_is, not_empty, one_command}

-- ---- an accepted call is done

abbrev Calls : Type 0
Calls = List (ℕ × Call)

abbrev alone : List Call → Calls
alone calls = map (λ call. (0, call)) calls

-- a history with more calls
abbrev then_calls : Entries → List Call → Entries
then_calls history calls = record { first = history.first; calls = history.calls ++ alone calls }

then_none : (history : Entries) → then_calls history [] ≡ history
then_none history = ap (λ (calls : Calls). record { first = history.first; calls = calls }) (append-nil history.calls)

then_more : (history : Entries) (one two : List Call) → then_calls (then_calls history one) two ≡ then_calls history (one ++ two)
then_more history one two =
    ap (λ (calls : Calls). record { first = history.first; calls = calls })
    (append_assoc history.calls (alone one) (alone two) ∙ ap (λ (calls : Calls). history.calls ++ calls) (sym (map-append (λ (c : Call). (0, c)) one two)))

-- the call is accepted after a history
abbrev CanBeNext : Entries → Call → Type 0
CanBeNext history c = IsAccepted (begun repository history.first) history.calls c

module _ (seen now : Entries) (c : Call) (accepted : CanBeNext seen c) where
  not_answered : {A : Type 0} (answer : Reply) → now.calls ≡ seen.calls → IsAnswered (begun repository seen.first) now.calls c answer → A
  not_answered answer same answered =
      let here : IsAccepted (begun repository seen.first) now.calls c = subst (λ (calls : Calls). IsAccepted (begun repository seen.first) calls c) (sym same) accepted in
      let none : IsSome (option_and_then (λ (state : Contents). repository.after state c) (Some answered.state)) = subst (λ (found : Option Contents). IsSome (option_and_then (λ state. repository.after state c) found)) answered.replays here in
      absurd (true≢false (sym (subst (λ (found : Option Contents). IsSome found) answered.stays none)))

  -- it is the last of the history, and its answer is no failure
  accepts : (answer : Reply) (text : List ℕ) → text ≡ reply_text answer → AsksBook repository 0 seen c (Ok answer) now → (now ≡ then_calls seen (c ∷ [])) × (reports_failure text ≡ false)
  accepts (reply.Done at) text reports asks = (
    same_book now (then_calls seen (c ∷ [])) asks.first (asks.asks.says.ends ∙ ap (λ (calls : Calls). calls ++ (0, c) ∷ []) (asks.asks.says.exact refl)),
    ap reports_failure reports,
  )
  accepts other text reports asks = not_answered other (asks.asks.says.0.exact refl) asks.asks.says.1

-- the text of a call is answered
module _ (c : Call) (can : IsScriptCall c) (short : IsReadWhole c) (before : SessionState) (text : List ℕ) (now : Entries) (accepted : CanBeNext before.history c) where
  answered_so : AnswersParsed before (parsed_command (call_text c)) text now → (now ≡ then_calls before.history (c ∷ [])) × (reports_failure text ≡ false)
  answered_so reports =
      let replies = subst (λ (parsed : Result ParsedCommand LineFault). AnswersParsed before parsed text now) (asks_call c can short) reports in
      accepts before.history now c accepted replies.reply text replies.reports replies.asks

  done_so : AnswersParsed before (parsed_command (call_text c)) text now ⊎ RunsOutOfMemory before (call_text c) text now → ReportsSuccess text → now ≡ then_calls before.history (c ∷ [])
  done_so (inl reports) well = (answered_so reports).0
  done_so (inr want) well = absurd (true≢false (ap reports_failure (sym want.1) ∙ well))

-- ---- calls that are accepted one after the other

abbrev AcceptedFrom : Entries → List Call → Type 0
AcceptedFrom before [] = Unit {0}
AcceptedFrom before (c ∷ calls) = CanBeNext before c × AcceptedFrom (then_calls before (c ∷ [])) calls

accepted_from : (before : Entries) (calls : List Call) → IsLegal (begun repository before.first) (before.calls ++ alone calls) → AcceptedFrom before calls
accepted_from before [] legal = tt
accepted_from before (c ∷ calls) legal =
    let object = begun repository before.first in
    let makes : (before.calls ++ (0, c) ∷ []) ++ alone calls ≡ before.calls ++ alone (c ∷ calls) = append_assoc before.calls ((0, c) ∷ []) (alone calls) in
    let here : IsLegal object (before.calls ++ (0, c) ∷ []) = legal_front object (record { rest = alone calls; makes = makes }) legal in (
      subst (λ (found : Option Contents). IsSome found) (replay_more object before.calls (0, c)) here,
      accepted_from (then_calls before (c ∷ [])) calls (subst (λ (history : Calls). IsLegal object history) (sym makes) legal),
    )

run_at_seat_0 : (first : Contents) (history : Calls) (from : Option Contents) → run (begun repository first) from (alone (calls_of history)) ≡ run (begun repository first) from history
run_at_seat_0 first [] from = refl
run_at_seat_0 first (entry ∷ history) from =
    run_at_seat_0 first history (option_and_then (λ state. repository.after state entry.1) from)

-- ---- the state of a load

-- some calls are done, and the text of the others is left
record Walked (calls : List Call) (before after : Entries) (left : List ℕ) : Type 0 where
  done : List Call
  more : List Call
  parts : calls ≡ done ++ more
  history : after ≡ then_calls before done
  left_is : left ≡ section_text more
  can : AllByRecursion IsScriptCall more
  short : AllByRecursion IsReadWhole more
  accepted : AcceptedFrom after more

abbrev commands_of : List Exchange → List ℕ
commands_of exchanges = flat_map (λ exchange. exchange.command) exchanges

-- the first call of the text was read
behind_first : (c : Call) (calls : List Call) (command rest : List ℕ) → IsScriptCall c → IsReadWhole c → IsCommand command → section_text (c ∷ calls) ≡ command ++ rest
    → (command ≡ call_text c) × (section_text calls ≡ rest)
behind_first c calls command rest can short is same =
    let cons : section_text (c ∷ calls) ≡ call_text c ++ section_text calls = flat_map-cons call_text c calls in
    let all : command ++ rest ≡ call_text c ++ section_text calls = sym same ∙ cons in
    let one = one_command command (call_text c) rest (section_text calls) is (is_command c can short) all in (
      one,
      sym (drop-append_seam (call_text c) (section_text calls)) ∙ ap (drop (length (call_text c))) (sym all ∙ ap (λ bytes. bytes ++ rest) one) ∙ drop-append_seam (call_text c) rest,
    )

walk : (exchanges : List Exchange) (first last : SessionState) (calls : List Call) (left : List ℕ) → AnswersInOrder first exchanges last → All (λ exchange. ReportsSuccess exchange.answer) exchanges
    → section_text calls ≡ commands_of exchanges ++ left → AllByRecursion IsScriptCall calls → AllByRecursion IsReadWhole calls → AcceptedFrom first.history calls → Walked calls first.history last.history left
walk [] first last calls left follow well same can short accepted =
    let history : last.history ≡ first.history = ap (λ (standing : SessionState). standing.history) (sym follow) in
    record {
      done = [];
      more = calls;
      parts = refl;
      history = history ∙ sym (then_none first.history);
      left_is = sym same;
      can = can;
      short = short;
      accepted = subst (λ (h : Entries). AcceptedFrom h calls) (sym history) accepted;
    }
walk (exchange ∷ others) first last [] left follow well same can short accepted =
    let cons : commands_of (exchange ∷ others) ≡ exchange.command ++ commands_of others = flat_map-cons (λ (e : Exchange). e.command) exchange others in
    absurd (not_empty exchange.command (commands_of others ++ left) follow.1 (sym (append_assoc exchange.command (commands_of others) left) ∙ ap (λ bytes. bytes ++ left) (sym cons) ∙ sym same))
walk (exchange ∷ others) first last (c ∷ calls) left follow well same can short accepted =
    let cons : commands_of (exchange ∷ others) ≡ exchange.command ++ commands_of others = flat_map-cons (λ (e : Exchange). e.command) exchange others in
    let next = follow.0 in
    let step = behind_first c calls exchange.command (commands_of others ++ left) can.0 short.0 follow.1 (same ∙ ap (λ bytes. bytes ++ left) cons ∙ append_assoc exchange.command (commands_of others) left) in
    let reports = subst (λ (command : List ℕ). AnswersParsed first (parsed_command command) exchange.answer next.history ⊎ RunsOutOfMemory first command exchange.answer next.history) step.0 follow.2.reports in
    let grown : next.history ≡ then_calls first.history (c ∷ []) = done_so c can.0 short.0 first exchange.answer next.history accepted.0 reports (All-head (λ (e : Exchange). ReportsSuccess e.answer) exchange others well) in
    let more = walk others next last calls left follow.3 (All-tail (λ (e : Exchange). ReportsSuccess e.answer) exchange others well) step.1 can.1 short.1 (subst (λ (h : Entries). AcceptedFrom h calls) (sym grown) accepted.1) in
    record {
      done = c ∷ more.done;
      more = more.more;
      parts = ap (λ (cs : List Call). c ∷ cs) more.parts;
      history = more.history ∙ ap (λ (h : Entries). then_calls h more.done) grown ∙ then_more first.history (c ∷ []) more.done;
      left_is = more.left_is;
      can = more.can;
      short = more.short;
      accepted = more.accepted;
    }

-- ---- how it ends

-- the command that was read is that of the next call, or there is none and it is empty
record NextOf (more : List Call) (command : List ℕ) : Type 0 where
  is : ((more ≡ []) × (command ≡ [])) ⊎ ((c : Call) × (others : List Call) × (more ≡ c ∷ others) × (command ≡ call_text c))

empty_section : (calls : List Call) → AllByRecursion IsScriptCall calls → AllByRecursion IsReadWhole calls → section_text calls ≡ [] → calls ≡ []
empty_section [] can short none = refl
empty_section (c ∷ calls) can short none =
    absurd (not_empty (call_text c) (section_text calls) (is_command c can.0 short.0) (sym (flat_map-cons call_text c calls) ∙ none))

whole_next : (more : List Call) (command rest : List ℕ) → AllByRecursion IsScriptCall more → AllByRecursion IsReadWhole more → IsCommand command → section_text more ≡ command ++ rest → NextOf more command
whole_next [] command rest can short is same = absurd (not_empty command rest is (sym same))
whole_next (c ∷ others) command rest can short is same =
    record { is = inr (c, others, refl, (behind_first c others command rest can.0 short.0 is same).0) }

-- at the end of the input it is the last one
record LastOf (more : List Call) (command : List ℕ) : Type 0 where
  is : ((more ≡ []) × (command ≡ [])) ⊎ ((c : Call) × (more ≡ c ∷ []) × (command ≡ call_text c))

left_next : (more : List Call) (command : List ℕ) → AllByRecursion IsScriptCall more → AllByRecursion IsReadWhole more → IsLeft command → section_text more ≡ command → LastOf more command
left_next [] command can short is same = record { is = inl (refl, sym same) }
left_next (c ∷ others) command can short is same =
    let cons : section_text (c ∷ others) ≡ call_text c ++ section_text others = flat_map-cons call_text c others in
    let none = left_is (call_text c) (section_text others) (is_command c can.0 short.0) (subst (λ (bytes : List ℕ). IsLeft bytes) (sym same ∙ cons) is) in
    let last = empty_section others can.1 short.1 none in
    record { is = inr (c, ap (λ (cs : List Call). c ∷ cs) last, sym same ∙ cons ∙ ap (λ bytes. call_text c ++ bytes) none ∙ append-nil (call_text c)) }

module _ (first : Contents) (calls : List Call) (middle : SessionState) (left : List ℕ) (walked : Walked calls (new_book first) middle.history left) where
  -- all the calls after the first state
  abbrev whole : Entries
  whole = record { first = first; calls = alone calls }

  abbrev of_calls : Calls → Entries
  of_calls list = record { first = first; calls = list }

  parted : alone walked.done ++ alone walked.more ≡ alone calls
  parted = sym (map-append (λ (c : Call). (0, c)) walked.done walked.more) ∙ ap alone (sym walked.parts)

  first_done : IsEarlier middle.history whole
  first_done = subst (λ (h : Entries). IsEarlier h whole) (sym walked.history) (record { first = refl; calls = record { rest = alone walked.more; makes = parted } })

  all_done : walked.more ≡ [] → middle.history ≡ whole
  all_done none =
      walked.history ∙ ap of_calls (ap alone (sym (append-nil walked.done) ∙ ap (λ (cs : List Call). walked.done ++ cs) (sym none) ∙ sym walked.parts))

  one_done : (c : Call) → walked.more ≡ c ∷ [] → then_calls middle.history (c ∷ []) ≡ whole
  one_done c one =
      ap (λ (h : Entries). then_calls h (c ∷ [])) walked.history
      ∙ ap of_calls (sym (map-append (λ (d : Call). (0, d)) walked.done (c ∷ [])) ∙ ap alone (ap (λ (cs : List Call). walked.done ++ cs) (sym one) ∙ sym walked.parts))

  facts : (c : Call) (others : List Call) → walked.more ≡ c ∷ others → IsScriptCall c × IsReadWhole c × CanBeNext middle.history c
  facts c others one = (
    (subst (λ (cs : List Call). AllByRecursion IsScriptCall cs) one walked.can).0,
    (subst (λ (cs : List Call). AllByRecursion IsReadWhole cs) one walked.short).0,
    (subst (λ (cs : List Call). AcceptedFrom middle.history cs) one walked.accepted).0,
  )

  -- the input has ended, and the last command, as far as it goes, was done
  ends_well : (rest : Option (List ℕ)) (now : Entries) → EndsWell (Some left) rest middle now → now ≡ whole
  ends_well None now ends = absurd ends.reads.0
  ends_well (Some rest) now ends =
      let command = ends.exchange.command in
      let all : left ≡ command = ends.reads.0 ∙ ap (λ (bytes : List ℕ). command ++ bytes) ends.reads.2 ∙ append-nil command in
      by (left_next walked.more command walked.can walked.short ends.reads.1 (sym walked.left_is ∙ all)).is
    where
      nothing : (command : List ℕ) → command ≡ [] → AnswersParsed middle (parsed_command command) ends.exchange.answer ends.after.history ⊎ RunsOutOfMemory middle command ends.exchange.answer ends.after.history → ends.after.history ≡ middle.history
      nothing command none (inl reports) =
          (subst (λ (bytes : List ℕ). AnswersParsed middle (parsed_command bytes) ends.exchange.answer ends.after.history) none reports).1
      nothing command none (inr want) = want.2

      by : ((walked.more ≡ []) × (ends.exchange.command ≡ [])) ⊎ ((c : Call) × (walked.more ≡ c ∷ []) × (ends.exchange.command ≡ call_text c)) → now ≡ whole
      by (inl (none, empty)) = ends.same ∙ nothing ends.exchange.command empty ends.answers.reports ∙ all_done none
      by (inr (c, one, is)) =
          let (can, short, accepted) = facts c [] one in
          let reports = subst (λ (command : List ℕ). AnswersParsed middle (parsed_command command) ends.exchange.answer ends.after.history ⊎ RunsOutOfMemory middle command ends.exchange.answer ends.after.history) is ends.answers.reports in
          ends.same ∙ done_so c can short middle ends.exchange.answer ends.after.history accepted reports ends.well ∙ one_done c one

  -- a command that was not done is none of these
  fails_never : (rest : Option (List ℕ)) (line : ℕ) (text : List ℕ) (now : Entries) → Fails (Some left) rest middle line text now → ⊥
  fails_never rest line text now fails = from fails.whole rest fails.reads
    where
      by : (command : List ℕ) → fails.command ≡ command → ((walked.more ≡ []) × (command ≡ [])) ⊎ ((c : Call) × (others : List Call) × (walked.more ≡ c ∷ others) × (command ≡ call_text c)) → ⊥
      by command same (inl (none, empty)) =
          let reports = subst (λ (bytes : List ℕ). AnswersParsed middle (parsed_command bytes) text now) (same ∙ empty) fails.reports in
          absurd (true≢false (sym fails.failure ∙ ap reports_failure reports.0))
      by command same (inr (c, others, one, is)) =
          let (can, short, accepted) = facts c others one in
          let reports = subst (λ (bytes : List ℕ). AnswersParsed middle (parsed_command bytes) text now) (same ∙ is) fails.reports in
          absurd (true≢false (sym fails.failure ∙ (answered_so c can short middle text now accepted reports).1))

      wider : (command : List ℕ) → ((walked.more ≡ []) × (command ≡ [])) ⊎ ((c : Call) × (walked.more ≡ c ∷ []) × (command ≡ call_text c))
          → ((walked.more ≡ []) × (command ≡ [])) ⊎ ((c : Call) × (others : List Call) × (walked.more ≡ c ∷ others) × (command ≡ call_text c))
      wider command (inl none) = inl none
      wider command (inr (c, one, is)) = inr (c, [], one, is)

      from : (whole : Bool) (rest : Option (List ℕ)) → ReadsCommand (Some left) rest whole fails.command → ⊥
      from true None reads = absurd reads.0
      from true (Some rest) reads =
          by fails.command refl (whole_next walked.more fails.command rest walked.can walked.short reads.1 (sym walked.left_is ∙ reads.0)).is
      from false None reads = absurd reads.0
      from false (Some rest) reads =
          let all : left ≡ fails.command = reads.0 ∙ ap (λ (bytes : List ℕ). fails.command ++ bytes) reads.2 ∙ append-nil fails.command in
          by fails.command refl (wider fails.command (left_next walked.more fails.command walked.can walked.short reads.1 (sym walked.left_is ∙ all)).is)

module _ (history : Entries) (state : Contents) (replays : replay_book repository history ≡ Some state) (can : AllByRecursion IsScriptCall (calls_of history.calls)) (short : AllByRecursion IsReadWhole (calls_of history.calls)) where
  abbrev calls : List Call
  calls = calls_of history.calls

  abbrev start : SessionState
  start = record { history = new_book history.first; lines = 0; diagnostic = no_diagnostic }

  back : replay_book repository (at_seat_0 history) ≡ Some state
  back = run_at_seat_0 history.first history.calls (Some history.first) ∙ replays

  walked : (left : List ℕ) (middle : SessionState) → Done (Some (kept_text history.calls)) (Some left) start middle → Walked calls (new_book history.first) middle.history left
  walked left middle done =
      walk done.exchanges start middle calls left done.follow done.well (sym (append-nil (section_text calls)) ∙ done.reads) can short (accepted_from (new_book history.first) calls (some_is_some back))

  ended : (left rest : Option (List ℕ)) (middle : SessionState) (result : Result (Unit {0}) LoadFault) (now : Entries)
      → Done (Some (kept_text history.calls)) left start middle → Ends left rest middle result now → RestoresHistory history state result now
  ended None rest middle result now done ends = absurd done.reads
  ended (Some left) rest middle (Ok unit) now done ends =
      let all = ends_well history.first calls middle left (walked left middle done) rest now ends in
      (all, ap (replay_book repository) all ∙ back)
  ended (Some left) rest middle (Err (Answer line text)) now done ends =
      fails_never history.first calls middle left (walked left middle done) rest line text.items now ends
  ended (Some left) rest middle (Err (Memory line)) now done ends =
      subst (λ (h : Entries). IsEarlier h (at_seat_0 history)) (sym ends.same) (first_done history.first calls middle left (walked left middle done))
  ended (Some left) rest middle (Err (Talk why)) now done ends =
      subst (λ (h : Entries). IsEarlier h (at_seat_0 history)) (sym ends.1) (first_done history.first calls middle left (walked left middle done))

pub keep_restores_history : KeepRestoresHistory
keep_restores_history history state replays can short rest result now loads =
    ended history state replays can short loads.left rest loads.middle result now loads.done loads.ends
