use Rattle.camp_questions.proofs.Words.{drop, AddsAll, bare, IsInRange, at_line, hunk_at}
use Rattle.camp_questions.proofs.passing.moves_from.Given as goal

abbrev pub invariant-loop-at : goal.invariant-loop-at
invariant-loop-at l = record {
  range : IsInRange (at_line l.line l.hunk);
  added : AddsAll (drop l.at l.changes) (bare l.patch) (bare (hunk_at l.patch l.hunk l.line));
}
