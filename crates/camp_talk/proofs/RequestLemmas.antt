-- The answer to a request, from the steps that are taken.
use Rattle.camp_talk.specs.Diagnostics.{no_diagnostic}
use Rattle.camp_talk.proofs.Words.{◌≡◌, ◌≤◌, ◌⊎◌, ◌+◌, ◌^◌, ◌<◌, ◌-◌, inl, inr, min, ℕ, Bool, true, false, List, [], ◌∷◌, ◌++◌, length, length-append, map, length-map, arith, All, All-cons, All-nil, Option, Some, Err, append-nil, append_assoc, flat_map, refl, sym, subst, ap, ◌∙◌, AnswersInOrder, AnswersParsed, Entries, Exchange, Exchanges, IsCommand, IsLeft, ReadsCommand, ReadsNone, SessionState, parsed_command}
use Rattle.camp_talk.proofs.Firsts.{command_read}
use Rattle.camp_talk.proofs.StepLemmas.{begins_so, counts_none, counts_one_more, holds_on}
use Rattle.camp_talk.specs.Inside.ExecutingNext.{ExecutesNext}
use Rattle.camp_talk.specs.Inside.RequestSteps.{AppendsStep, HasExecuted, IsHaltOf, IsNotExecuted, StopsAfter, StopsBefore}
use Rattle.camp_talk.specs.Requests.{AnswersRequest, AnswersSome, HasCommands, one_unless_empty}
use Rattle.camp_talk.specs.declared.faults.TalkFault.{TalkFault}
use Rattle.camp_talk.specs.declared.faults.TalkFault.TheVariants.{Internal, Memory, Read, Write}
use Rattle.camp_talk.specs.declared.requests.Halt.{Halt}
use Rattle.camp_talk.specs.declared.requests.Halt.TheVariants.{After}
use Rattle.camp_talk.specs.declared.responses.Response.{Response}
use Rattle.camp_talk.specs.declared.responses.Response.TheVariants.{Done, Failed, OutOfMemory}

abbrev command_of : Exchange → List ℕ
command_of exchange = exchange.command

-- the bytes of commands, one after the other
abbrev bytes_of : List Exchange → List ℕ
bytes_of exchanges = flat_map (λ (exchange : Exchange). exchange.command) exchanges

-- a command has bytes
command_some : (bytes : List ℕ) → IsCommand bytes → 1 ≤ length bytes
command_some bytes is = omega (arith, ap (λ (l : List ℕ). length l) is.ended, length-append is.front (10 ∷ []))

-- bytes that are there count as one
some_count : (bytes : List ℕ) → 1 ≤ length bytes → one_unless_empty bytes ≡ 1
some_count [] long = absurd (omega (arith, long))
some_count (byte ∷ bytes) long = refl

one_at_most : (bytes : List ℕ) → one_unless_empty bytes ≤ 1
one_at_most [] = omega arith
one_at_most (byte ∷ bytes) = omega arith

-- commands that were answered one after the other are no more than their bytes
follow_long : (first : SessionState) (exchanges : List Exchange) (last : SessionState) → AnswersInOrder first exchanges last
    → length exchanges ≤ length (bytes_of exchanges)
follow_long first [] last follow = omega arith
follow_long first (one ∷ exchanges) last (next, is, answers, follow) = omega (
  arith,
  command_some one.command is,
  follow_long next exchanges last follow,
  length-append one.command (bytes_of exchanges),
)

-- each of them is a command
follow_are : (first : SessionState) (exchanges : List Exchange) (last : SessionState) → AnswersInOrder first exchanges last
    → All IsCommand (map command_of exchanges)
follow_are first [] last follow = All-nil IsCommand
follow_are first (one ∷ exchanges) last (next, is, answers, follow) =
    All-cons IsCommand one.command (map command_of exchanges) is (follow_are next exchanges last follow)

-- their bytes are those of the commands, one after the other
bytes_are : (exchanges : List Exchange) → bytes_of exchanges ≡ flat_map (λ (command : List ℕ). command) (map command_of exchanges)
bytes_are [] = refl
bytes_are (one ∷ exchanges) = ap (λ (bytes : List ℕ). one.command ++ bytes) (bytes_are exchanges)

-- a command that was read is whole, or else nothing is left after it
whole_or_left : (left rest : List ℕ) (whole : Bool) (command : List ℕ) → ReadsCommand (Some left) (Some rest) whole command
    → IsCommand command ⊎ (IsLeft command × (rest ≡ []))
whole_or_left left rest true command (reads, is) = inl is
whole_or_left left rest false command (reads, is, ends) = inr (is, ends)

-- it counts as one, unless there was nothing to read
count_one : (left rest : List ℕ) (whole : Bool) (command : List ℕ) → ReadsCommand (Some left) (Some rest) whole command
    → one_unless_empty left ≡ one_unless_empty command
count_one left rest true command (reads, is) =
    let long = command_some command is in
    some_count left (omega (arith, long, ap (λ (l : List ℕ). length l) reads, length-append command rest)) ∙ sym (some_count command long)
count_one left rest false command (reads, is, ends) =
    ap one_unless_empty (reads ∙ ap (λ (bytes : List ℕ). command ++ bytes) ends ∙ append-nil command)

-- the last command is all that is left
all_left : (left rest command : List ℕ) → ReadsCommand (Some left) (Some rest) false command → left ≡ command
all_left left rest command (reads, is, ends) = reads ∙ ap (λ (bytes : List ℕ). command ++ bytes) ends ∙ append-nil command

-- ---- one step

module _ (a b : Option (List ℕ)) (old new : List ℕ) (before : SessionState) where
  -- there was no command to execute
  pub not_executed : (why : TalkFault) → ReadsNone a b before why → IsNotExecuted a b old new before why
  not_executed Memory none = tt
  not_executed (Read error) none = tt
  not_executed (Write error) none = none
  not_executed Internal none = none

  -- the answer to a command can't be stored
  module _ (whole : Bool) (reached after : SessionState) (same : after.history ≡ reached.history) (kept : new ≡ old) where
    after_answer : (command text : List ℕ) → ReadsCommand a b whole command → AnswersParsed before (parsed_command command) text reached.history
        → AppendsStep a b old new before (Err After) after
    after_answer command text reads reports = record {
      whole = whole;
      exchange = record { command = command; answer = text };
      reads = reads;
      reports = subst (λ (now : Entries). AnswersParsed before (parsed_command command) text now) (sym same) reports;
      kept = kept;
    }

    pub halts : (response : Response) (halt : Halt) → ExecutesNext a b before whole response reached
        → IsHaltOf response halt → AppendsStep a b old new before (Err halt) after
    halts (Done text) halt executes is =
        subst (λ (halt : Halt). AppendsStep a b old new before (Err halt) after) (sym is)
        (after_answer executes.command text.items executes.reads executes.says.0.0.0)
    halts (Failed why text) halt executes is =
        subst (λ (halt : Halt). AppendsStep a b old new before (Err halt) after) (sym is)
        (after_answer executes.command text.items executes.reads executes.says.0.0.0)
    halts OutOfMemory halt executes is =
        subst (λ (halt : Halt). AppendsStep a b old new before (Err halt) after) (sym is)
        (record { none = tt; kept = kept; same = same ∙ executes.says.0.0 })

-- ---- all steps

module _ (history : Entries) (request old : List ℕ) where
  abbrev first : SessionState
  first = record { history = history; lines = 0; diagnostic = no_diagnostic }

  -- at first no command was executed
  pub begins_executing : HasExecuted request request old old first first 0
  begins_executing = record {
    holds = begins_so (Some request) (Some old) first;
    counts = sym (counts_none (Some request) (Some old) first);
  }

  module _ (left rest held new : List ℕ) (middle last : SessionState) (executed after : ℕ) (few : length request < 2 ^ 64 - 1)
      (so_far : HasExecuted request left old held first middle executed) (adds : after ≡ min (executed + one_unless_empty left) (2 ^ 64 - 1)) where
    -- the count is not full
    exactly : (one : ℕ) → one_unless_empty left ≡ one → one ≤ 1 → after ≡ length so_far.holds.exchanges + one
    exactly one is small = omega (
      arith,
      few,
      small,
      is,
      adds,
      so_far.counts,
      ap (λ (bytes : List ℕ). length bytes) so_far.holds.reads,
      length-append (bytes_of so_far.holds.exchanges) left,
      follow_long first so_far.holds.exchanges middle so_far.holds.follow,
    )

    counts_one : (whole : Bool) (command : List ℕ) → ReadsCommand (Some left) (Some rest) whole command
        → after ≡ length so_far.holds.exchanges + one_unless_empty command
    counts_one whole command reads = exactly (one_unless_empty command) (count_one left rest whole command reads) (one_at_most command)

    -- one more command was executed and answered
    pub executes_on : Exchanges (Some left) (Some rest) (Some held) (Some new) true middle last
        → HasExecuted request rest old new first last after
    executes_on step =
        let one = count_one left rest true step.exchange.command step.reads
        ∙ some_count step.exchange.command (command_some step.exchange.command step.reads.1) in
        record {
          holds = holds_on (Some request) (Some left) (Some rest) (Some old) (Some held) (Some new) first middle last so_far.holds step;
          counts = exactly 1 one (omega arith)
              ∙ sym (counts_one_more (Some request) (Some left) (Some rest) (Some old) (Some held) (Some new) first middle last so_far.holds step);
        }

    -- the last command was executed: the request has this number of them
    pub executes_all : Exchanges (Some left) (Some rest) (Some held) (Some new) false middle last → HasCommands request after
    executes_all step = record {
      whole = map command_of so_far.holds.exchanges;
      left = step.exchange.command;
      are = follow_are first so_far.holds.exchanges middle so_far.holds.follow;
      is = step.reads.1;
      parts = so_far.holds.reads
          ∙ ap (λ (bytes : List ℕ). bytes_of so_far.holds.exchanges ++ bytes) (all_left left rest step.exchange.command step.reads)
          ∙ ap (λ (bytes : List ℕ). bytes ++ step.exchange.command) (bytes_are so_far.holds.exchanges);
      counts = counts_one false step.exchange.command step.reads
          ∙ ap (λ (n : ℕ). n + one_unless_empty step.exchange.command) (sym (length-map so_far.holds.exchanges command_of));
    }

    -- one was executed, and its answer is not there
    pub request_loses : StopsAfter (Some left) (Some rest) held new middle last
        → (text : List ℕ) × (new ≡ old ++ text) × AnswersSome history request text last.history after
    request_loses stops = (
      flat_map (λ (exchange : Exchange). exchange.answer) so_far.holds.exchanges,
      stops.kept ∙ so_far.holds.writes,
      record {
        exchanges = so_far.holds.exchanges;
        middle = middle;
        follow = so_far.holds.follow;
        rest = left;
        asks = so_far.holds.reads;
        reports = refl;
        leaves = inr (record {
          last = stops.exchange;
          more = rest;
          is = whole_or_left left rest stops.whole stops.exchange.command stops.reads;
          reports = stops.reports;
          asks = command_read (Some left) (Some rest) stops.whole stops.exchange.command stops.reads;
          counts = counts_one stops.whole stops.exchange.command stops.reads;
        });
      },
    )

  module _ (left rest held new : List ℕ) (middle last : SessionState) (executed : ℕ) where
    -- after the last command
    pub request_answered : HasExecuted request left old held first middle executed
        → Exchanges (Some left) (Some rest) (Some held) (Some new) false middle last
        → (text : List ℕ) × (new ≡ old ++ text) × AnswersRequest history request text last.history
    request_answered so_far step =
        let holds = so_far.holds in
        let answers = flat_map (λ (exchange : Exchange). exchange.answer) holds.exchanges in (
          answers ++ step.exchange.answer,
          step.writes ∙ ap (λ (bytes : List ℕ). bytes ++ step.exchange.answer) holds.writes ∙ append_assoc old answers step.exchange.answer,
          record {
            exchanges = holds.exchanges;
            last = step.exchange;
            middle = middle;
            after = last;
            follow = holds.follow;
            is = step.reads.1;
            answers = step.answers;
            same = refl;
            asks = holds.reads
                ∙ ap (λ (bytes : List ℕ). bytes_of holds.exchanges ++ bytes) (all_left left rest step.exchange.command step.reads);
            reports = refl;
          },
        )

    -- no further command was executed
    pub request_stops : (why : TalkFault) → HasExecuted request left old held first middle executed
        → StopsBefore (Some left) (Some rest) held new middle why last
        → (text : List ℕ) × (new ≡ old ++ text) × AnswersSome history request text last.history executed
    request_stops why so_far stops = (
      flat_map (λ (exchange : Exchange). exchange.answer) so_far.holds.exchanges,
      stops.kept ∙ so_far.holds.writes,
      record {
        exchanges = so_far.holds.exchanges;
        middle = middle;
        follow = so_far.holds.follow;
        rest = left;
        asks = so_far.holds.reads;
        reports = refl;
        leaves = inl (stops.same, so_far.counts);
      },
    )
