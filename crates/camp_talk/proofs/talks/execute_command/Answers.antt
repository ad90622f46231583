use Rattle.camp_talk.proofs.Words.{◌≡◌, ℕ, List, length, refl, ap, ◌∙◌, arith, lines_of, SessionState, as_read, length-map}
use Rattle.camp_talk.proofs.Growing.{respond_grows}
use Rattle.camp_talk.proofs.StepLemmas.{answered, responded}
use Rattle.camp_talk.specs.Engine.Commands.{IsReadAs}
use Rattle.camp_talk.proofs.talks.execute_command.Goals.{After-count_lines}
use Rattle.camp_talk.proofs.talks.execute_command.Goals as goal

-- the number of lines of the command
counted : (c : After-count_lines) → c.count_lines.result ≡ length (lines_of c.args.command.bytes.items)
counted c = c.count_lines.ensures ∙ ap (λ (bytes : List ℕ). length (lines_of bytes)) c.deref.ensures.value

pub returns-in_default-clause-executes : goal.returns-in_default-clause-executes
returns-in_default-clause-executes c =
    let then = (goal.at.returns-in_default-clause-executes c).After-count_lines in
    (refl, refl, omega (arith, counted then))

pub returns-clause-responds : goal.returns-clause-responds
returns-clause-responds c bytes is =
    let before : SessionState = record { history = c.args.book.now; lines = c.args.lines.now; diagnostic = c.args.diagnostic.now } in
    responded before c.respond-response.new.book c.respond-response.new.diagnostic bytes (lines_of c.args.command.bytes.items) c.args.command.parsed is.parsed is.lines
    c.respond-response.result c.respond-response.ensures.responds c.respond-response.ensures.nothing is.silent

pub returns-clause-counts : goal.returns-clause-counts
returns-clause-counts c =
    let then = (goal.at.returns-clause-counts c).After-count_lines in
    omega (arith, counted then)

pub returns-clause-executes : goal.returns-clause-executes
returns-clause-executes c =
    let then = (goal.at.returns-clause-executes c).After-count_lines in
    let before : SessionState = record { history = c.args.book.now; lines = c.args.lines.now; diagnostic = c.args.diagnostic.now } in
    let after : SessionState = record { history = c.respond-response.new.book; lines = c.in-Some.after; diagnostic = c.respond-response.new.diagnostic } in (
      λ (bytes : List ℕ) (is : IsReadAs c.args.command bytes). answered before after bytes c.respond-response.result
          (responded before after.history after.diagnostic bytes (lines_of c.args.command.bytes.items) c.args.command.parsed is.parsed is.lines
          c.respond-response.result c.respond-response.ensures.responds c.respond-response.ensures.nothing is.silent)
          (omega (arith, counted then, ap (λ (ls : List (List ℕ)). length ls) is.lines, length-map (lines_of bytes) as_read)),
      respond_grows before (lines_of c.args.command.bytes.items) c.args.command.parsed c.respond-response.result after.history after.diagnostic
          c.respond-response.ensures.responds,
    )
