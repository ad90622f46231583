use Rattle.camp_seq.proofs.Words.{◌≡◌, drop, length, take, Passes}
use Rattle.camp_seq.proofs.passes.commute_right.Given as goal

abbrev pub invariant-loop-at : goal.invariant-loop-at
invariant-loop-at l = record {
  long : length l.s ≡ length l.initial.s;
  waiting : drop l.at l.s ≡ drop l.at l.initial.s;
  passed : Passes l.initial.p (take l.at l.initial.s) (take l.at l.s) l.p;
}
