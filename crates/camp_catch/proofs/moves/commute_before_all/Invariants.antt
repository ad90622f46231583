use Rattle.camp_catch.proofs.Words.{drop, take, ◌≡◌, CatchCommutesBeforeAll}
use Rattle.camp_catch.proofs.moves.commute_before_all.Given as goal

abbrev pub invariant-loop-at : goal.invariant-loop-at
invariant-loop-at l = record {
  came : CatchCommutesBeforeAll (drop l.at l.initial.list) l.initial.coming l.coming (drop l.at l.list);
  waiting : take l.at l.list ≡ take l.at l.initial.list;
}
