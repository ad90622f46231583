use Rattle.camp_why.proofs.Words.{arith, length, refl, slice_get_read, sym, ◌-◌}
use Rattle.camp_why.proofs.Misfitting.{agrees, differs, ends}
use Rattle.camp_why.proofs.misfits.other_line.Goals as goal

pub returns-then-ne : goal.returns-then-ne
returns-then-ne c =
    let at = c.loop-at.at in
    let old = c.old-old.result.now in
    let from = c.line.result - 1 in
    differs c.args.hunk.now c.args.lines.now from at old c.loop-at.invariant c.in-Some.actual.now c.index-old-at.result
    (slice_get_read old (length old) at c.index-old-at.result refl (omega arith) c.index-old-at.is)
    (sym c.in-Some.ensures.exact) c.if-ne.ensures _ _ c.in_ok-actual.ensures.exact c.in_ok-expected.ensures.exact

pub loop-at-preserved : goal.loop-at-preserved
loop-at-preserved c =
    let at = c.loop-at.at in
    let old = c.old-old.result.now in
    let from = c.line.result - 1 in
    agrees c.args.hunk.now c.args.lines.now from at old c.loop-at.invariant c.in-Some.actual.now c.index-old-at.result
    (slice_get_read old (length old) at c.index-old-at.result refl (omega arith) c.index-old-at.is) (sym c.in-Some.ensures.exact) c.if-ne.ensures

pub returns-in_default : goal.returns-in_default
returns-in_default c =
    let at = c.loop-at.at in
    let old = c.old-old.result.now in
    let from = c.line.result - 1 in
    ends c.args.hunk.now c.args.lines.now from at old c.loop-at.invariant c.index-old-at.result
    (slice_get_read old (length old) at c.index-old-at.result refl (omega arith) c.index-old-at.is) (sym c.in_default.ensures.exact)
