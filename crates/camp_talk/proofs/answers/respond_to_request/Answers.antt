use Rattle.camp_talk.proofs.Words.{◌≡◌, ◌∙◌, ℕ, List, false, lines_of, refl, subst, sym, SessionState}
use Rattle.camp_talk.proofs.StepLemmas.{done_responded, refused_responded}
use Rattle.camp_talk.specs.Answers.{asks_nothing}
use Rattle.camp_talk.specs.Inside.ExecutingNext.{RefusesRequest}
use Rattle.camp_talk.proofs.answers.respond_to_request.Goals as goal

pub returns-in-Ok-clause-responds : goal.returns-in-Ok-clause-responds
returns-in-Ok-clause-responds c =
    let asks : asks_nothing c.args.request ≡ false = sym c.asks_nothing.ensures ∙ c.if-asks_nothing.false in
    rw c.close.ensures (λ (before : ℕ).
    let seen : SessionState = record { history = c.args.book.now; lines = before; diagnostic = c.args.diagnostic.now } in
    done_responded seen (lines_of c.args.command.now) c.args.request asks c.execute.new.book c.in-Ok.answer (c.in-Ok.ensures before))

pub returns-in-Err-Refused-clause-responds : goal.returns-in-Err-Refused-clause-responds
returns-in-Err-Refused-clause-responds c =
    let asks : asks_nothing c.args.request ≡ false = sym c.asks_nothing.ensures ∙ c.if-asks_nothing.false in
    let refuses = subst (λ (line : List ℕ). RefusesRequest c.state.result.now c.args.diagnostic.now line c.args.request c.in-Err-Refused.refusal c.refuse.result c.refuse.new.diagnostic)
    c.first_line-line.ensures.value c.refuse.ensures in
    λ (before : ℕ).
    let seen : SessionState = record { history = c.args.book.now; lines = before; diagnostic = c.args.diagnostic.now } in
    let executes = rw c.in-Err-Refused.field-0-is at (c.in-Err-Refused.ensures before) in
    refused_responded seen (lines_of c.args.command.now) c.args.request asks c.execute.new.book c.in-Err-Refused.refusal c.state.result.now c.refuse.result
    c.refuse.new.diagnostic executes c.state.ensures.exact refuses

pub returns-in-Err-Memory-clause-responds : goal.returns-in-Err-Memory-clause-responds
returns-in-Err-Memory-clause-responds c = λ (before : ℕ). (rw c.in-Err-Memory.field-0-is at (c.in-Err-Memory.ensures before), refl)
