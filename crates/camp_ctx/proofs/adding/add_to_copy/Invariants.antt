use Rattle.std.proofs.Common.{IsTrue}
use Rattle.camp_ctx.proofs.Words.{drop, AddsAll, Norm}
use Rattle.camp_ctx.specs.Inside.InPlace.{in_context}
use Rattle.camp_ctx.proofs.adding.add_to_copy.Given as goal

abbrev pub invariant-loop-at : goal.invariant-loop-at
invariant-loop-at l = record {
  added : AddsAll (drop l.at l.r) l.x (in_context l.context l.patch);
  own : IsTrue l.told → Norm l.context l.context;
}
