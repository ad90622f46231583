use Rattle.std.proofs.Common.{◌≡◌, ◌++◌, take}
use Rattle.camp_kept.specs.Entries.{placed_at}
use Rattle.camp_kept.proofs.entries.add_notes.Given as goal

abbrev pub invariant-loop-note : goal.invariant-loop-note
invariant-loop-note l = l.log ≡ l.fn.log ++ placed_at l.at (take l.note-index l.notes)
