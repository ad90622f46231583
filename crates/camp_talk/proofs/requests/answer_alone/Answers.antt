use Rattle.camp_talk.proofs.Words.{◌∙◌, ◌++◌, List, ℕ, Err, ap, rules, subst, sym}
use Rattle.std.specs.Global.{Global}
use Rattle.camp_talk.specs.Engine.Commands.{AnswersFrame}
use Rattle.camp_talk.specs.Requests.{AnswersRequest}
use Rattle.camp_talk.proofs.requests.answer_alone.Goals as goal

pub returns-in_err-answer_request : goal.returns-in_err-answer_request
returns-in_err-answer_request c =
    let (text, grows, some) = c.in_err-answer_request.ensures.some_executed in
    let fails : AnswersFrame {Z = Global} c.args.book.now c.args.request.now (Err c.in_err-answer_request.field-0.0) c.answer_request.new.book =
    (c.in_err-answer_request.ensures.unanswered, text, c.answer_request.new.executed, some) in
    search (rules, fails)

pub returns : goal.returns
returns c =
    let (text, grows, answers) = c.in_ok-answer_request.ensures.answers in
    subst (λ (bytes : List ℕ). AnswersRequest c.args.book.now c.args.request.now bytes c.answer_request.new.book)
    (sym (grows ∙ ap (λ (bytes : List ℕ). bytes ++ text) c.new-answer.ensures.items)) answers
