use Rattle.camp_run.proofs.Words.{ap, subst, sym, lists_of, repository_within, HaveTexts, IsLocked}
use Rattle.camp_run.proofs.Texts.{locked_texts}
use Rattle.camp_run.proofs.Written.{prepared}
use Rattle.camp_run.proofs.locks.locked_text.Goals as goal

pub text_of-requires : goal.text_of-requires
text_of-requires g c =
    subst (λ answers. HaveTexts (lists_of answers)) (sym c.deref.ensures.value)
    (locked_texts c.args.limits (lists_of c.sections.result.now) (lists_of c.in_ok-run.run'.answers.items) c.in_ok-run.run'.book.calls (rw c.in_ok-first.ensures.exact at c.in_ok-run.ensures.locked))

pub returns : goal.returns
returns g c =
    prepared (IsLocked (repository_within c.args.limits)) c.args.history c.args.script.now (lists_of c.sections.result.now) (lists_of c.in_ok-run.run'.answers.items)
    (lists_of c.deref.result.now) c.in_ok-run.run'.book.calls c.history.result.now c.in_ok-text_of.field-0.items c.sections.ensures.value
    (rw c.in_ok-first.ensures.exact at c.in_ok-run.ensures.locked) (ap lists_of c.deref.ensures.value) c.history.ensures.value c.in_ok-text_of.ensures
