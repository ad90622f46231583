use Rattle.std.proofs.Common.{◌≡◌, take, drop}
use Rattle.camp_catch.proofs.MergeListSteps.{IsBehind}
use Rattle.camp_catch.proofs.merging_lists.merge_with_all.Given as goal

abbrev pub invariant-loop-j : goal.invariant-loop-j
invariant-loop-j l = record {
  behind : IsBehind l.initial.q l.k (take l.j-index l.q) l.after (drop l.j-index l.initial.q);
  waiting : drop l.j-index l.q ≡ drop l.j-index l.initial.q;
}
