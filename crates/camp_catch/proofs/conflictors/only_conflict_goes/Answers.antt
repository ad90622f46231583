use Rattle.camp_catch.proofs.Words.{ap, sym, ◌∙◌, told_not, one_add_of_all, bare, context_key, patch_key, Catch, Plain}
use Rattle.camp_catch.proofs.CommuteSteps.{no_context, is_nothing}
use Rattle.camp_catch.proofs.PartsDetermined.{same_only}
use Rattle.camp_catch.proofs.conflictors.only_conflict_goes.Goals as goal

pub returns-in_default : goal.returns-in_default
returns-in_default c = λ pair w. c.in_default.ensures.exact w.x w.alone

pub returns-then-not-has_key : goal.returns-then-not-has_key
returns-then-not-has_key c = λ pair w.
    told_not _ c.if-not-has_key.true c.has_key.ensures (ap patch_key c.patch.ensures.exact ∙ ap context_key (same_only c.args.k.now.conflicts _ w.x c.in-Some.ensures.exact w.alone) ∙ w.named ∙ sym c.key.ensures.exact)

pub returns-then-not-has_no_context : goal.returns-then-not-has_no_context
returns-then-not-has_no_context c = λ pair w.
    told_not _ c.if-not-has_no_context.true c.has_no_context.ensures (no_context _ w.a (one_add_of_all c.args.j.now.effect c.args.k.now.identity _ (bare w.a) c.in_ok-seen.ensures.exact w.becomes))

pub returns : goal.returns
returns c =
    let named = sym (ap patch_key c.patch.ensures.exact) ∙ c.has_key.ensures.0 c.if-not-has_key.false ∙ c.key.ensures.exact in
    let nothing = is_nothing c.args.k.now.effect _ _ c.is_empty.ensures c.if-not-is_empty.false c.items.ensures.exact in
    let takes = c.in_ok-first.ensures in
    record { x = _; named = named; no_effect = nothing; alone = c.in-Some.ensures.exact; a = _; becomes = (rw (c.has_no_context.ensures.0 c.if-not-has_no_context.false ∙ ap bare (sym c.patch-a.ensures.exact)) at c.in_ok-seen.ensures.exact); effect = takes.s'; joined = takes.effect; second = ap Plain c.in_ok-second.ensures.exact; first = ap Catch.Conflictor takes.is }
