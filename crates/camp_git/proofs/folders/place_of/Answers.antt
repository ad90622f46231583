use Rattle.camp_git.proofs.Words.{◌+◌, ◌-◌, ◌/◌, arith}
use Rattle.camp_git.proofs.FilesInOrder.{all_before, none_at_end}
use Rattle.camp_git.proofs.folders.place_of.Goals as goal

pub loop-low-init : goal.loop-low-init
loop-low-init c = record {
  rises = omega arith;
  within = omega (arith, c.len-high.ensures.exact);
  before = λ k file l is. absurd (omega arith);
  behind = λ file is. absurd (none_at_end c.args.tree.now c.len-high.result file c.len-high.ensures.exact is);
}

pub loop-low-preserved-then-stands_before : goal.loop-low-preserved-then-stands_before
loop-low-preserved-then-stands_before c = record {
  rises = omega arith;
  within = c.loop-low.invariant.within;
  before = λ k file l is. all_before c.args.tree.now c.args.bytes.now (c.loop-low.low + (c.loop-low.high - c.loop-low.low) / 2) (λ e at. (c.stands_before.ensures e at).0 c.if-stands_before.true) (omega (arith, c.loop-low.invariant.within)) k file (omega arith) is;
  behind = c.loop-low.invariant.behind;
}
