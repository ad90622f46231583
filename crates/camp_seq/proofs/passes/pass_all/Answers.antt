use Rattle.camp_seq.proofs.Words.{◌+◌, ◌-◌, drop, refl, arith, PassesAll}
use Rattle.camp_seq.proofs.PassingSteps.{stops_all, all_done, one_more_done}
use Rattle.camp_seq.proofs.passes.pass_all.Goals as goal

pub returns-then-not-pass : goal.returns-then-not-pass
returns-then-not-pass c =
    let i = c.loop-at.at - 1 in
    record {
      exact = λ any m. stops_all c.args.r.now c.loop-at.r c.args.s.now c.loop-at.s c.loop-at.at i c.index-r-at.result (omega arith) (omega arith) (omega arith) c.loop-at.invariant (λ x y. c.if-not-pass.ensures.exact (x, y)) any.0 any.1 m;
    }

pub loop-at-preserved : goal.loop-at-preserved
loop-at-preserved c =
    let i = c.loop-at.at - 1 in
    one_more_done (λ t u. PassesAll t c.args.s.now c.loop-at.s u) (λ t u. PassesAll t c.args.s.now c.pass.new.s u) c.args.r.now c.loop-at.r c.loop-at.at i c.index-r-at.result c.pass.new.p (omega arith) (omega arith) (omega arith) c.loop-at.invariant (λ passed. (c.loop-at.s, c.pass.new.p, drop (i + 1) c.loop-at.r, passed, c.if-not-pass.ensures.exact, refl))

pub returns : goal.returns
returns c = record {
  exact = all_done (λ t u. PassesAll t c.args.s.now c.loop-at.s u) c.args.r.now c.loop-at.r c.loop-at.at (omega arith) c.loop-at.invariant;
}
