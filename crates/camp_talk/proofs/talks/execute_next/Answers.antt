use Rattle.camp_talk.proofs.Words.{◌≡◌, ℕ, List, length, true, Ok, first_of, is_skipped, words_of, ap, subst, sym, ◌∙◌, arith, rules, Gives, lines_of, ReadsNone, SessionState, as_read, length-map, parsed_lines}
use Rattle.camp_talk.proofs.Firsts.{command_left, command_read}
use Rattle.camp_talk.proofs.StepLemmas.{reads_none, reads_too_much}
use Rattle.camp_talk.specs.Engine.Commands.{IsReadAs}
use Rattle.camp_talk.specs.declared.questions.ParsedCommand.TheVariants as parsed
use Rattle.camp_talk.proofs.talks.execute_next.Goals as goal
use Rattle.camp_talk.proofs.talks.execute_next.Given.{Over}
use Rattle.camp_talk.proofs.talks.execute_next.Goals.{After-execute_command}

-- the command that was read
read_as : (g : Over) (c : After-execute_command g) → IsReadAs c.in-Ok.command c.in-Ok.ensures.command.command
read_as g c =
    let command = c.in-Ok.command in
    let read = c.in-Ok.ensures.command in
    record {
      lines = read.lines;
      parsed = subst (λ (ls : List (List ℕ)). Gives command.parsed (parsed_lines ls)) read.lines c.in-Ok.ensures.parsed;
      silent = subst (λ (ls : List (List ℕ)). is_skipped (words_of (first_of ls)) ≡ true → command.parsed ≡ Ok parsed.Nothing) read.lines c.in-Ok.ensures.silent;
    }

-- its lines
lines : (g : Over) (c : After-execute_command g) → length (lines_of c.in-Ok.command.bytes.items) ≡ length (lines_of c.in-Ok.ensures.command.command)
lines g c =
    let read = c.in-Ok.ensures.command in
    ap (λ (ls : List (List ℕ)). length ls) read.lines ∙ length-map (lines_of read.command) as_read

pub returns-in-Err-clause-none : goal.returns-in-Err-clause-none
returns-in-Err-clause-none g c =
    let before : SessionState = record { history = c.args.book.now; lines = c.args.lines; diagnostic = c.args.diagnostic.now } in
    search (rules, reads_none _ _ before _ c.in-Err.ensures.fault c.in-Err.ensures.within)

pub returns-in_err-response-clause-none : goal.returns-in_err-response-clause-none
returns-in_err-response-clause-none g c =
    let then = (goal.at.returns-in_err-response-clause-none g c).After-execute_command in
    let before : SessionState = record { history = c.args.book.now; lines = c.args.lines; diagnostic = c.args.diagnostic.now } in
    let read = c.in-Ok.ensures.command in
    let whole = c.in-Ok.command.is_whole in
    let many = reads_too_much _ _ before read.command (command_read _ _ whole read.command read.reads) (command_left _ _ whole read.command read.reads)
    (omega (arith, c.in_err-response.ensures.executes.2, lines g then)) in
    let none = subst (ReadsNone (g.R.Read.remaining c.args.reader.now) (g.R.Read.remaining c.read_command.new.reader) before)
    (sym c.in_err-response.ensures.executes.0) many in
    search (rules, none)

pub returns-in_err-response-clause-same : goal.returns-in_err-response-clause-same
returns-in_err-response-clause-same g c =
    let same = c.in_err-response.ensures.executes.1 in
    let book : c.execute_command.new.book ≡ c.args.book.now = ap (λ (s : SessionState). s.history) same in
    let diagnostic : c.execute_command.new.diagnostic ≡ c.args.diagnostic.now = ap (λ (s : SessionState). s.diagnostic) same in
    search (rules, book, diagnostic)

pub returns-clause-executes_next : goal.returns-clause-executes_next
returns-clause-executes_next g c =
    let read = c.in-Ok.ensures.command in
    let then = (goal.at.returns-clause-executes_next g c).After-execute_command in
    record {
      command = read.command;
      reads = read.reads;
      says = c.in_ok-response.ensures.responds read.command (read_as g then);
      counts = omega (arith, c.in_ok-response.ensures.counts, lines g then);
    }
