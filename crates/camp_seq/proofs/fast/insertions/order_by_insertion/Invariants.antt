use Rattle.camp_seq.proofs.Words.{take, ◌~◌, Norm}
use Rattle.camp_seq.proofs.fast.insertions.order_by_insertion.Given as goal

abbrev pub invariant-loop-last : goal.invariant-loop-last
invariant-loop-last l = record {
  same : l.initial.items ~ l.items;
  ordered : Norm (take l.last l.items) (take l.last l.items);
}
