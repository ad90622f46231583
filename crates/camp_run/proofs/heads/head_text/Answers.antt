use Rattle.std.proofs.lemmas.Result.{IfOk-weaker}
use Rattle.camp_run.proofs.Words.{count_by, subst, sym, ap, refl, ◌∙◌, ◌≤◌, AllByRecursion, is_writing, lists_of, repository_within, HaveTexts, IsShared}
use Rattle.camp_run.proofs.Texts.{shared_texts}
use Rattle.camp_run.proofs.Written.{lent_within, prepared}
use Rattle.camp_run.proofs.heads.head_text.Goals as goal

pub text_of-requires : goal.text_of-requires
text_of-requires g c =
    subst (λ answers. HaveTexts (lists_of answers)) (sym c.deref.ensures.value)
    (shared_texts c.args.limits (lists_of c.sections.result.now) (lists_of c.in_ok-run.run'.answers.items)
    _ c.args.tries (rw c.in_ok-first.ensures.exact at c.in_ok-run.ensures.shared))

pub text_of-requires-2 : goal.text_of-requires-2
text_of-requires-2 g c =
    subst (λ answers. HaveTexts (lists_of answers)) (sym c.deref-2.ensures.value)
    (shared_texts c.args.limits (lists_of c.sections.result.now) (lists_of c.in_ok-run.run'.answers.items)
    _ c.args.tries (rw c.in_ok-first.ensures.exact at c.in_ok-run.ensures.shared))

pub invariant_of-plan-clause-writing : goal.invariant_of-plan-clause-writing
invariant_of-plan-clause-writing g c =
    lent_within c.sections.result.now
    (subst (AllByRecursion (λ section. count_by is_writing section ≤ 65_536)) (sym c.sections.ensures.value)
    c.sections.ensures.limits.writes_within)

pub returns-then-not-history : goal.returns-then-not-history
returns-then-not-history g c = IfOk-weaker c.text_of.result _ _ (λ text is.
    prepared (IsShared (repository_within c.args.limits) c.args.tries) c.args.history c.args.script.now (lists_of c.sections.result.now) (lists_of c.in_ok-run.run'.answers.items)
    (lists_of c.deref.result.now) _ _ text.items c.sections.ensures.value (rw c.in_ok-first.ensures.exact at c.in_ok-run.ensures.shared) (ap lists_of c.deref.ensures.value) refl (rw c.if-not-history.true is)) c.text_of.ensures

pub returns : goal.returns
returns g c = IfOk-weaker c.text_of-2.result _ _ (λ text is.
    prepared (IsShared (repository_within c.args.limits) c.args.tries) c.args.history c.args.script.now (lists_of c.sections.result.now) (lists_of c.in_ok-run.run'.answers.items)
    (lists_of c.deref-2.result.now) _ c.deref-3.result.now text.items c.sections.ensures.value (rw c.in_ok-first.ensures.exact at c.in_ok-run.ensures.shared) (ap lists_of c.deref-2.ensures.value)
    (c.deref-3.ensures.value ∙ c.in_ok-history.ensures.history) (rw c.if-not-history.false is)) c.text_of-2.ensures
