use Rattle.camp_seq.proofs.Words.{◌≡◌, ◌+◌, ◌-◌, false, true, refl, subst, arith, PartsFrom}
use Rattle.camp_seq.proofs.GatherSteps.{parts_named, parts_other, parts_stop}
use Rattle.camp_seq.proofs.splits.gather.Goals as goal
use Rattle.camp_seq.proofs.splits.gather.Goals.{After-is_named}

so_far : (c : After-is_named) → PartsFrom c.args.labels.now c.args.items.now (c.loop-at.at - 1 + 1) c.loop-at.count c.loop-at.items
so_far c =
    let e : c.loop-at.at ≡ c.loop-at.at - 1 + 1 = omega arith in
    subst (λ n. PartsFrom c.args.labels.now c.args.items.now n c.loop-at.count c.loop-at.items) e c.loop-at.invariant.parts

pub loop-at-preserved-then-is_named : goal.loop-at-preserved-then-is_named
loop-at-preserved-then-is_named c = record {
  parts = parts_named c.args.labels.now c.args.items.now c.loop-at.items (c.loop-at.at - 1) c.loop-at.count c.index-items-at.result (omega arith) (omega arith) (so_far (goal.at.loop-at-preserved-then-is_named c).After-is_named) (c.if-is_named.ensures.0 refl);
  bound = omega arith;
}

pub returns-then-not-pass_first : goal.returns-then-not-pass_first
returns-then-not-pass_first c = record {
  exact = λ any m. parts_stop c.args.labels.now c.args.items.now c.loop-at.items _ (c.loop-at.at - 1) c.loop-at.count _ c.index-items-at.result (omega arith) (omega arith) (omega arith) (so_far (goal.at.returns-then-not-pass_first c).After-is_named) (λ named. let never : false ≡ true = c.if-is_named.ensures.1 named in cc) refl c.if-not-pass_first.ensures.exact m.0 m.1 m.2;
}

pub loop-at-preserved : goal.loop-at-preserved
loop-at-preserved c = record {
  parts = parts_other c.args.labels.now c.args.items.now c.loop-at.items _ c.pass_first.new.items (c.loop-at.at - 1) c.loop-at.count _ c.index-items-at.result (omega arith) (omega arith) (omega arith) (so_far (goal.at.loop-at-preserved c).After-is_named) (λ named. let never : false ≡ true = c.if-is_named.ensures.1 named in cc) refl c.if-not-pass_first.ensures.exact;
  bound = omega arith;
}
