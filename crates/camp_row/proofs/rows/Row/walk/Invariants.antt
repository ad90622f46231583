use Rattle.camp_row.proofs.Words.{◌≡◌, ◌-◌, length, part, known, IsPass}
use Rattle.camp_row.proofs.TrailSteps.{WalksBack}
use Rattle.camp_row.proofs.rows.Row.walk.Given as goal

abbrev pub invariant-loop-word : goal.invariant-loop-word
invariant-loop-word l = record {
  pass : IsPass l.pass-inside (part l.pass-inside);
  same : known l.pass-inside ≡ l.fn.pass;
  walks_back : WalksBack (part l.pass-inside) l.word l.cells.items;
}

abbrev pub decreases-loop-word : goal.decreases-loop-word
decreases-loop-word l = length (part l.pass-inside).ahead - length l.cells.items
