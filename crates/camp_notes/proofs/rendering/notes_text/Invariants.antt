use Rattle.std.proofs.Common.{◌≡◌, take}
use Rattle.std.specs.List.{AllByRecursion}
use Rattle.camp_notes.specs.Notes.{CanBeNote}
use Rattle.camp_notes.specs.Texts.{notes_text}
use Rattle.camp_notes.proofs.rendering.notes_text.Given as goal

abbrev pub invariant-loop-note : goal.invariant-loop-note
invariant-loop-note l =
    (l.text.items ≡ notes_text (take l.note-index l.notes))
    × AllByRecursion CanBeNote (take l.note-index l.notes)
