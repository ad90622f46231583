use Rattle.std.proofs.Common.{◌≡◌, take}
use Rattle.camp_kept.specs.Entries.{placed_at}
use Rattle.camp_notes.specs.Logs.{notes_placed}
use Rattle.camp_kept.proofs.texts.split_placed.Given as goal

abbrev pub invariant-loop-one : goal.invariant-loop-one
invariant-loop-one l =
    (l.count ≡ l.one-index) × (take l.one-index l.notes ≡ placed_at l.at (notes_placed (take l.one-index l.notes)))
