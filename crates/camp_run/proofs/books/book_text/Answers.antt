use Rattle.std.proofs.lemmas.Result.{IfOk-weaker}
use Rattle.camp_run.proofs.Words.{[], ap, subst, sym, lists_of, HaveTexts, IsSerial}
use Rattle.camp_run.proofs.Serial.{serial_run}
use Rattle.camp_run.proofs.Texts.{serial_texts}
use Rattle.camp_run.proofs.Written.{prepared}
use Rattle.camp_run.proofs.books.book_text.Goals as goal

pub text_of-requires : goal.text_of-requires
text_of-requires c =
    subst (λ answers. HaveTexts (lists_of answers)) (sym c.deref.ensures.value)
    (serial_texts c.args.limits 0 [] (lists_of c.sections.result.now) (lists_of c.in_ok-run.run'.answers.items) c.in_ok-run.run'.book.calls
    (rw c.in_ok-first.ensures.exact at c.in_ok-run.ensures.serial))

pub returns : goal.returns
returns c =
    let serial = rw c.in_ok-first.ensures.exact at c.in_ok-run.ensures.serial in
    let legal = rw (c.in_ok-run.ensures.begins, c.in_ok-first.ensures.exact) at c.history.ensures.legal in
    IfOk-weaker c.text_of.result _ _ (λ text is.
    prepared (IsSerial c.args.limits) c.args.history c.args.script.now (lists_of c.sections.result.now) (lists_of c.in_ok-run.run'.answers.items)
    (lists_of c.deref.result.now) c.in_ok-run.run'.book.calls c.history.result.now text.items c.sections.ensures.value
    (serial_run c.args.limits (lists_of c.sections.result.now) (lists_of c.in_ok-run.run'.answers.items) c.in_ok-run.run'.book.calls
    legal serial)
    (ap lists_of c.deref.ensures.value) c.history.ensures.value is) c.text_of.ensures
