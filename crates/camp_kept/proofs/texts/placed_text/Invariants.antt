use Rattle.std.proofs.Common.{◌≡◌, take}
use Rattle.std.specs.List.{AllByRecursion}
use Rattle.camp_notes.specs.Logs.{notes_placed}
use Rattle.camp_notes.specs.Notes.{CanBeNote}
use Rattle.camp_notes.specs.Texts.{notes_text}
use Rattle.camp_kept.proofs.texts.placed_text.Given as goal

abbrev pub invariant-loop-one : goal.invariant-loop-one
invariant-loop-one l =
    (l.text.items ≡ notes_text (notes_placed (take l.one-index l.notes))) × AllByRecursion CanBeNote (notes_placed (take l.one-index l.notes))
