use Rattle.camp_catch.proofs.Words.{ap, sym, ◌∙◌, told_not, against, Catch, Plain, Conflictor}
use Rattle.camp_catch.proofs.commuting.conflict_dissolves.Goals as goal

pub returns-then-not-branch : goal.returns-then-not-branch
returns-then-not-branch c = λ pair w.
    told_not _ c.if-not-branch.true c.in_ok-is_against.ensures (w.is ∙ ap (against c.args.a.now) (sym (ap (λ (k : Conflictor). k.identity.patch) w.is)))

pub returns : goal.returns
returns c =
    let patch = c.patch-q.ensures.exact in
    record { q = _; is = c.in_ok-is_against.ensures.0 c.if-not-branch.false; second = ap Plain (c.in_ok-second.ensures.exact ∙ patch); first = ap Catch.Conflictor (rw patch at c.in_ok-first.ensures) }
