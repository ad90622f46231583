use Rattle.camp_repo.proofs.Words.{◌++◌, ap, ◌∙◌, sym, subst, recorded, Next, IsLawfulState, placed, after, changed, is_too_large}
use Rattle.camp_repo.proofs.DecideSteps.{record_accepted, record_refused}
use Rattle.camp_repo.proofs.RecordSteps.{is_new, leads_from, record_keeps}
use Rattle.camp_repo.proofs.states.State.record.Goals as goal

pub returns-in-Err-Blocked-clause-exact : goal.returns-in-Err-Blocked-clause-exact
returns-in-Err-Blocked-clause-exact c =
    let has = c.in-Some.ensures.value in
    let free = sym c.stands.ensures ∙ c.if-stands.false in
    let small = ap (is_too_large c.args.self.now.limits.catches c.in-Some.old.now) (sym c.prims.ensures.value) ∙ sym (c.is_too_large.ensures ∙ ap (λ l. is_too_large l.catches c.in-Some.old.now c.prims.result.now) c.limits.ensures.exact) ∙ c.if-is_too_large.false in
    let led = (rw c.in-Err-Blocked.field-0-is at c.in-Err-Blocked.ensures) ∙ ap (λ cs. changed cs c.tree.result.now) c.prims-2.ensures.value in
    (rw c.in-Err-Blocked.field-0-is at c.refused-in-Err-Blocked.ensures) ∙ record_refused c.args.self.now c.args.branch.now c.args.name.now c.args.changes.now c.in-Some.old.now c.tree.result.now has free small c.tree.ensures.exact c.in-Err-Blocked.refusal led

pub recorded-requires-clause-is_new : goal.recorded-requires-clause-is_new
recorded-requires-clause-is_new c =
    is_new c.args.self.now c.args.branch.now c.args.name.now c.in-Some.old.now c.in-Some.ensures.value (sym c.stands.ensures ∙ c.if-stands.false)

pub recorded-requires-clause-leads : goal.recorded-requires-clause-leads
recorded-requires-clause-leads c old leads =
    let led = c.in-Ok.ensures ∙ ap (λ cs. changed cs c.tree.result.now) c.prims-2.ensures.value in
    leads_from c.in-Some.old.now c.tree.result.now old c.in-Ok.tree c.args.changes.now c.prims-3.result.now c.tree.ensures.exact leads c.prims-3.ensures.value led

pub with_grown-requires-clause-lawful : goal.with_grown-requires-clause-lawful
with_grown-requires-clause-lawful c =
    let has = c.in-Some.ensures.value in
    let free = sym c.stands.ensures ∙ c.if-stands.false in
    let small = ap (is_too_large c.args.self.now.limits.catches c.in-Some.old.now) (sym c.prims.ensures.value) ∙ sym (c.is_too_large.ensures ∙ ap (λ l. is_too_large l.catches c.in-Some.old.now c.prims.result.now) c.limits.ensures.exact) ∙ c.if-is_too_large.false in
    let led = c.in-Ok.ensures ∙ ap (λ cs. changed cs c.tree.result.now) c.prims-2.ensures.value in
    let new_is = c.in_ok-new.ensures.exact ∙ ap (λ cs. c.in-Some.old.now ++ recorded c.args.name.now 1 cs) c.prims-3.ensures.value in
    subst (λ b. IsLawfulState (after c.args.self.now (placed c.args.self.now.branches c.in-Some.place b))) (sym new_is)
    (record_keeps c.args.self.now c.args.branch.now c.args.name.now c.args.changes.now c.in-Some.old.now c.tree.result.now c.in-Ok.tree c.in-Some.place has free small c.tree.ensures.exact led c.in-Some.ensures.placed c.in-Some.ensures.lawful)

pub returns-clause-exact : goal.returns-clause-exact
returns-clause-exact c =
    let has = c.in-Some.ensures.value in
    let free = sym c.stands.ensures ∙ c.if-stands.false in
    let small = ap (is_too_large c.args.self.now.limits.catches c.in-Some.old.now) (sym c.prims.ensures.value) ∙ sym (c.is_too_large.ensures ∙ ap (λ l. is_too_large l.catches c.in-Some.old.now c.prims.result.now) c.limits.ensures.exact) ∙ c.if-is_too_large.false in
    let led = c.in-Ok.ensures ∙ ap (λ cs. changed cs c.tree.result.now) c.prims-2.ensures.value in
    let new_is = c.in_ok-new.ensures.exact ∙ ap (λ cs. c.in-Some.old.now ++ recorded c.args.name.now 1 cs) c.prims-3.ensures.value in
    ap Next (c.in_ok-next.ensures ∙ ap (λ b. after c.args.self.now (placed c.args.self.now.branches c.in-Some.place b)) new_is) ∙ record_accepted c.args.self.now c.args.branch.now c.args.name.now c.args.changes.now c.in-Some.old.now c.tree.result.now has free small c.tree.ensures.exact c.in-Ok.tree c.in-Some.place led c.in-Some.ensures.placed

pub with_grown-requires-clause-grown : goal.with_grown-requires-clause-grown
with_grown-requires-clause-grown c = (c.in-Some.old.now, recorded c.args.name.now 1 c.prims-3.result.now, c.in-Some.ensures.at, c.in_ok-new.ensures.exact)
